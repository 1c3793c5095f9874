-- Runs of a search: each meets some of the siphons that are grown in its classes, and leaves the others to further runs.
use Rattle.std.specs.Prelude.{◌≡◌, ◌≢◌, ◌↔◌, ◌⊎◌, ◌≤◌, ℕ, ◌+◌, List, [], ◌∷◌, ◌++◌, Bool, All, Contains, length}
use Rattle.std.specs.List.{flat_map}
use Rattle.std.specs.Cmp.Lexicographic.{slice_cmp}
use Rattle.std.specs.Ordering.{bool_cmp}
use Rattle.net_values.specs.Net.{Net}
use Rattle.net_values.specs.TheList.{IsStrictlyAscending}
use Rattle.siphon_branch.specs.declared.branch.Branch.{Branch}
use Rattle.siphon_branch.specs.Classes.{AreDisjoint, HasSize, IsGrownSetIn}
use Rattle.siphon_branch.specs.Limits.{AreDistinct}
use Rattle.siphon_branch.specs.Met.{IsListOf}
use Rattle.siphon_branch.specs.Searches.{InSome, IsMinimalOf}
use Rattle.branch_resume.specs.declared.resumed.Resumed.{Resumed}
use Rattle.branch_resume.specs.Pending.{ArePending}

-- a siphon of the net that is grown in one of the classes
abbrev pub IsGrownInSome : Net → List Branch → List Bool → Type 0
IsGrownInSome net classes set = InSome (IsGrownSetIn net) classes set

-- a run from the classes: the siphons that are grown in one of them are those that it meets, each once, and those that
-- are grown in a class that it leaves pending, and the two kinds are apart; it finds the minimal ones that it meets
pub record IsRun (net : Net) (classes : List Branch) (run : Resumed) : Type 0 where
  pub grown : (set : List Bool) → IsGrownInSome net classes set ↔ (Contains run.met set ⊎ IsGrownInSome net run.pending set)
  pub distinct : AreDistinct run.met
  pub apart : (set : List Bool) → Contains run.met set → IsGrownInSome net run.pending set → ⊥
  pub found : IsListOf (IsMinimalOf net run.met) run.found

-- at most so many siphons are met, and where a class is pending exactly so many
pub record HasLeaves (leaves : ℕ) (run : Resumed) : Type 0 where
  pub most : length run.met ≤ leaves
  pub exact : run.pending ≢ [] → length run.met ≡ leaves

-- a run from the classes with so many leaves, whose list ascends, and whose pending classes can be read again
pub record IsResumed (net : Net) (leaves : ℕ) (classes : List Branch) (run : Resumed) : Type 0 where
  pub is_run : IsRun net classes run
  pub ascending : IsStrictlyAscending (slice_cmp bool_cmp) run.found
  pub left : ArePending net.places run.pending
  pub counted : HasLeaves leaves run

-- the classes, of a net with this many places, are parted among two lists: each is in one of them, and no class of the
-- one has a siphon in common with a class of the other
pub record ArePartedAmong (places : ℕ) (classes some others : List Branch) : Type 0 where
  pub members : (class : Branch) → Contains classes class ↔ (Contains some class ⊎ Contains others class)
  pub sizes : All (HasSize places) some
  pub disjoint : (one other : Branch) → Contains some one → Contains others other → AreDisjoint one other

-- a list of runs: each is from the classes to which the one before led, and the last leads to no class
abbrev pub IsListOfRuns : Net → List Branch → List Resumed → Type 0
IsListOfRuns net classes [] = classes ≡ []
IsListOfRuns net classes (run ∷ runs) = IsRun net classes run × IsListOfRuns net run.pending runs

-- the runs of a tree: there is none where no class is left; or one from the classes, and a tree of runs from those that
-- it leaves pending; or the classes are parted among two trees
pub data IsTreeOfRuns (net : Net) : List Branch → List Resumed → Type 0 where
  ended : IsTreeOfRuns net [] []
  goes_on : {classes : List Branch} {runs : List Resumed} (run : Resumed) → IsRun net classes run → IsTreeOfRuns net run.pending runs → IsTreeOfRuns net classes (run ∷ runs)
  parted : {classes some others : List Branch} {runs more : List Resumed} → ArePartedAmong net.places classes some others → IsTreeOfRuns net some runs → IsTreeOfRuns net others more → IsTreeOfRuns net classes (runs ++ more)

-- what the runs meet and what they give, one list after the other
abbrev pub all_met : List Resumed → List (List Bool)
all_met runs = flat_map (λ run. run.met) runs

abbrev pub all_found : List Resumed → List (List Bool)
all_found runs = flat_map (λ run. run.found) runs

-- how many of the runs leave a class pending
abbrev pub one_if_pending : List Branch → ℕ
one_if_pending [] = 0
one_if_pending (class ∷ classes) = 1

abbrev pub count_pending : List Resumed → ℕ
count_pending [] = 0
count_pending (run ∷ runs) = one_if_pending run.pending + count_pending runs
