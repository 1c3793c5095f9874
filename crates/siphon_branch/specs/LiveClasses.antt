-- Live classes: what is kept of one, the place at which it is parted, and its two parts.
use Rattle.std.specs.Prelude.{◌≡◌, ◌⊎◌, ℕ, List, Bool, true, false, length, map, not, slice_set}
use Rattle.net_values.specs.Net.{Net}
use Rattle.net_values.specs.PlaceSets.{has}
use Rattle.closed_sets.specs.ClosedSets.{IsGreatestSiphon, IsNonempty, IsSiphon, IsWithin}
use Rattle.closed_sets.specs.Growth.{Belongs, IsFirst, is_input_in, is_open}
use Rattle.closed_sets.specs.Opens.{AreOpen}
use Rattle.siphon_branch.specs.declared.branch.Branch.{Branch}
use Rattle.siphon_branch.specs.declared.live_class.LiveClass.{LiveClass}
use Rattle.siphon_branch.specs.Classes.{HasSize}

-- the class alone
abbrev pub branch_of : LiveClass → Branch
branch_of class = record { contains = class.contains; avoids = class.avoids }

abbrev pub branches_of : List LiveClass → List Branch
branches_of classes = map branch_of classes

-- the class is live: this is the greatest siphon that avoids the one set, and it has the places of the other, whose
-- open transitions are kept too
pub record IsHeld (net : Net) (class : LiveClass) : Type 0 where
  pub size : HasSize net.places (branch_of class)
  pub room : length class.greatest ≡ net.places
  pub greatest : IsGreatestSiphon net (λ p. not (has class.avoids p)) (has class.greatest)
  pub some : IsNonempty net (has class.greatest)
  pub within : IsWithin net (has class.contains) (has class.greatest)
  pub opens : AreOpen net class.contains class.opens

-- no nonempty siphon belongs to the class
abbrev pub IsDead : Net → Branch → Type 0
IsDead net class = (S : ℕ → Bool) → IsSiphon net S → IsNonempty net S → Belongs net (has class.contains) (has class.avoids) S → ⊥

-- the class with what is kept of it
pub record IsLiveOf (net : Net) (class : Branch) (live : LiveClass) : Type 0 where
  pub held : IsHeld net live
  pub same : branch_of live ≡ class

-- the contained set is a siphon, and not empty
pub record IsWhole (net : Net) (contains : ℕ → Bool) : Type 0 where
  pub siphon : IsSiphon net contains
  pub some : IsNonempty net contains

-- nothing is contained, and the place is the lowest that is left
pub record IsLowestLeft (net : Net) (contains left : ℕ → Bool) (p : ℕ) : Type 0 where
  pub nothing : (q : ℕ) → contains q ≡ false
  pub first : IsFirst net.places left p

-- the place is the lowest input place that is left of the lowest open transition
pub record IsLowestInput (net : Net) (contains left : ℕ → Bool) (p : ℕ) : Type 0 where
  pub transition : ℕ
  pub opens : IsFirst net.transitions (is_open net contains) transition
  pub first : IsFirst net.places (is_input_in net left transition) p

-- the place that the growth of the siphons in a set takes next from the contained set
abbrev pub IsNextPlace : Net → (ℕ → Bool) → (ℕ → Bool) → ℕ → Type 0
IsNextPlace net contains left p = IsLowestLeft net contains left p ⊎ IsLowestInput net contains left p

-- the two parts of a class at a place
abbrev pub part_without : Branch → ℕ → Branch
part_without class p = record { contains = class.contains; avoids = slice_set class.avoids p true }

abbrev pub part_containing : Branch → ℕ → Branch
part_containing class p = record { contains = slice_set class.contains p true; avoids = class.avoids }
