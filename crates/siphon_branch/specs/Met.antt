-- What a search meets: lists of sets, each of which is the list of truth values that tell for each place of the
-- net whether it is in.
use Rattle.std.specs.Prelude.{◌↔◌, List, Bool, Contains}
use Rattle.siphon_branch.specs.Limits.{AreDistinct}

-- the list has exactly the sets with the property, each once
pub record IsListOf (Property : List Bool → Type 0) (list : List (List Bool)) : Type 0 where
  pub distinct : AreDistinct list
  pub members : (set : List Bool) → (Contains list set) ↔ Property set
