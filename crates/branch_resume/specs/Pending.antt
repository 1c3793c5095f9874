-- What is read of a rest: the pending classes of a net, or the first line that keeps them from being read.
use Rattle.std.specs.Prelude.{◌≡◌, ◌≢◌, ◌⊎◌, ◌<◌, ℕ, ◌+◌, List, [], ◌∷◌, ◌++◌, All, AllPairs, Any, IsTrue, length}
use Rattle.std.specs.List.{flat_map}
use Rattle.net_values.specs.PlaceSets.{has}
use Rattle.siphon_branch.specs.declared.branch.Branch.{Branch}
use Rattle.siphon_branch.specs.Classes.{AreDisjoint, HasSize, IsConsistent, every_set}
use Rattle.branch_resume.specs.Tokens.{BeginsWithToken, BeginToken}

-- classes of a net with this many places, of which no two have a siphon in common
pub record ArePending (places : ℕ) (classes : List Branch) : Type 0 where
  pub sizes : All (HasSize places) classes
  pub consistent : All IsConsistent classes
  pub disjoint : AllPairs AreDisjoint classes

-- no bytes stand for the class of all siphons, and other bytes begin with the token of the classes
abbrev pub StandsFor : ℕ → List ℕ → List Branch → Type 0
StandsFor places bytes classes = ((bytes ≡ []) × (classes ≡ every_set places ∷ [])) ⊎ BeginsWithToken bytes classes

-- the pending classes of the net for which the bytes stand
pub record ReadsPending (places : ℕ) (bytes : List ℕ) (classes : List Branch) : Type 0 where
  pub pending : ArePending places classes
  pub spelled : StandsFor places bytes classes

-- the bytes aren't empty and begin with no token, and this is the first line, counted from 1, that after the lines
-- before it begins none; one that is missing is counted as the line after the last
pub record IsMalformedAt (bytes : List ℕ) (number : ℕ) : Type 0 where
  pub some : bytes ≢ []
  pub none : (classes : List Branch) → BeginsWithToken bytes classes → ⊥
  pub before : List (List ℕ)
  pub rest : List ℕ
  pub joined : bytes ≡ flat_map (λ line. line) before ++ rest
  pub begin : BeginToken before
  pub bad : (line after : List ℕ) → rest ≡ line ++ after → BeginToken (before ++ line ∷ []) → ⊥
  pub count : number ≡ length before + 1

-- each place that the class contains or avoids is one of the net
abbrev pub IsOfNet : ℕ → Branch → Type 0
IsOfNet places class = (p : ℕ) → IsTrue (has class.contains p) ⊎ IsTrue (has class.avoids p) → p < places

-- the class has a place that the net lacks, or isn't disjoint from one of the classes before it
abbrev pub IsRefused : ℕ → List Branch → Branch → Type 0
IsRefused places before class = (IsOfNet places class → ⊥) ⊎ Any (λ earlier. AreDisjoint earlier class → ⊥) before

-- the bytes begin with a token, and this is the first line, counted from 1, whose class is refused
pub record IsRejectedAt (places : ℕ) (bytes : List ℕ) (number : ℕ) : Type 0 where
  pub before : List Branch
  pub class : Branch
  pub after : List Branch
  pub token : BeginsWithToken bytes (before ++ class ∷ after)
  pub good : All (IsOfNet places) before
  pub disjoint : AllPairs AreDisjoint before
  pub refused : IsRefused places before class
  pub count : number ≡ length before + 2
