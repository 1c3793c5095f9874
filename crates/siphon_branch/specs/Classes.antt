-- Classes of a search: the siphons that contain one set of places and avoid another.
use Rattle.std.specs.Prelude.{◌≡◌, ◌⊎◌, ℕ, List, Bool, false, IsTrue, length, not, replicate}
use Rattle.net_values.specs.Net.{Net}
use Rattle.net_values.specs.PlaceSets.{has}
use Rattle.closed_sets.specs.ClosedSets.{IsGreatestSiphon, IsNonempty, IsWithin}
use Rattle.closed_sets.specs.Growth.{Belongs, IsGrownIn}
use Rattle.siphon_branch.specs.declared.branch.Branch.{Branch}

-- both sets have the size of the net
pub record HasSize (places : ℕ) (class : Branch) : Type 0 where
  pub contains : length class.contains ≡ places
  pub avoids : length class.avoids ≡ places

-- a class is live where the greatest siphon that avoids the one set is nonempty and contains the other
pub record IsLiveClass (net : Net) (contains avoids : ℕ → Bool) : Type 0 where
  pub greatest : ℕ → Bool
  pub is_greatest : IsGreatestSiphon net (λ p. not (avoids p)) greatest
  pub nonempty : IsNonempty net greatest
  pub has_all : IsWithin net contains greatest

-- the class of all sets of places
abbrev pub every_set : ℕ → Branch
every_set places = record { contains = replicate places false; avoids = replicate places false }

-- some place is contained by one and avoided by the other
pub record AreDisjoint (one other : Branch) : Type 0 where
  pub place : ℕ
  pub apart : (IsTrue (has one.contains place) × IsTrue (has other.avoids place)) ⊎ (IsTrue (has one.avoids place) × IsTrue (has other.contains place))

-- no place is both contained and avoided
abbrev pub IsConsistent : Branch → Type 0
IsConsistent class = (p : ℕ) → IsTrue (has class.contains p) → IsTrue (has class.avoids p) → ⊥

-- a set of places of the net that belongs to the class
pub record IsSetIn (net : Net) (class : Branch) (set : List Bool) : Type 0 where
  pub size : length set ≡ net.places
  pub belongs : Belongs net (has class.contains) (has class.avoids) (has set)

-- a siphon of the net that is grown in the class
pub record IsGrownSetIn (net : Net) (class : Branch) (set : List Bool) : Type 0 where
  pub size : length set ≡ net.places
  pub grown : IsGrownIn net (has class.contains) (has class.avoids) (has set)
