-- What a step that takes places out of a set keeps, and how many members a set has.
use Rattle.std.specs.Prelude.{ℕ, List, Bool}
use Rattle.std.specs.List.{count_by}
use Rattle.net_values.specs.Net.{Net}
use Rattle.closed_sets.specs.ClosedSets.{IsSiphon, IsWithin}

-- no place was put in, and each siphon in the old set is in the new one
pub record Shrinks (net : Net) (old new : ℕ → Bool) : Type 0 where
  pub within : IsWithin net new old
  pub keeps : (S : ℕ → Bool) → IsSiphon net S → IsWithin net S old → IsWithin net S new

-- the number of places in a set
abbrev pub members : List Bool → ℕ
members set = count_by (λ member. member) set
