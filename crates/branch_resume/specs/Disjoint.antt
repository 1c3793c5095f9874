-- How it is told that classes are disjoint.
use Rattle.std.specs.Prelude.{◌≡◌, ◌<◌, ℕ, List, Bool, AllPairs, Any, IsTrue, length, slice_get, Some, take}
use Rattle.net_values.specs.PlaceSets.{has}
use Rattle.siphon_branch.specs.declared.branch.Branch.{Branch}
use Rattle.siphon_branch.specs.Classes.{AreDisjoint}

-- some place is in both sets
pub record HaveCommon (one other : List Bool) : Type 0 where
  pub place : ℕ
  pub in_one : IsTrue (has one place)
  pub in_other : IsTrue (has other place)

-- each place of the last set is in both others
abbrev pub IsWithinBoth : List Bool → List Bool → List Bool → Type 0
IsWithinBoth one other set = (p : ℕ) → IsTrue (has set p) → IsTrue (has one p) × IsTrue (has other p)

-- the class isn't disjoint from one of the earlier ones
abbrev pub OverlapsOne : List Branch → Branch → Type 0
OverlapsOne earlier class = Any (λ one. AreDisjoint one class → ⊥) earlier

-- the first class that isn't disjoint from an earlier one
pub record IsFirstOverlap (classes : List Branch) (k : ℕ) : Type 0 where
  pub within : k < length classes
  pub class : Branch
  pub there : slice_get classes k ≡ Some class
  pub before : AllPairs AreDisjoint (take k classes)
  pub overlaps : OverlapsOne (take k classes) class
