-- One column of a net's matrix of arc weights: the places with a positive weight, in ascending order.
use Rattle.std.specs.Prelude.{◌≡◌, ℕ, ◌+◌, ◌<◌, ◌≤◌, ◌==◌, if◌then◌else◌, List, length, All, AllPairs, Any, slice_index, sum_by}
use Rattle.std.specs.List.{AllWithin, HoldsAt}
use Rattle.net_values.specs.declared.column.WeightedPlace.{WeightedPlace}

-- the weight of an entry where it occurs at the place, else 0
abbrev pub part_at : ℕ → WeightedPlace → ℕ
part_at p entry = if entry.place == p then entry.weight else 0

-- the weight of a place: what the entries give it together
abbrev pub weight_at : List WeightedPlace → ℕ → ℕ
weight_at column p = sum_by (part_at p) column

-- the places ascend, and each has a positive weight
pub record IsColumn (column : List WeightedPlace) : Type 0 where
  pub ascending : AllPairs (λ entry later. entry.place < later.place) column
  pub positive : All (λ entry. 0 < entry.weight) column

-- the new column has this much more at the place, and as much as before elsewhere
abbrev pub AddsAt : List WeightedPlace → List WeightedPlace → ℕ → ℕ → Type 0
AddsAt old new p weight = (q : ℕ) → weight_at new q ≡ weight_at old q + (if q == p then weight else 0)

-- the new counts are what is left of the old ones where each place gave its weight
abbrev pub LeftOf : List ℕ → List WeightedPlace → List ℕ → Type 0
LeftOf old column new = (p : ℕ) → slice_index new p + weight_at column p ≡ slice_index old p

-- the new counts are the old ones where each place was given its weight
abbrev pub GivenTo : List ℕ → List WeightedPlace → List ℕ → Type 0
GivenTo old column new = (p : ℕ) → slice_index new p ≡ slice_index old p + weight_at column p

-- the entry of the place occurs at k
pub record OccursAt (column : List WeightedPlace) (p : ℕ) (k : ℕ) : Type 0 where
  pub within : k < length column
  pub place : HoldsAt (λ entry. entry.place ≡ p) column k

-- the place has no entry, and one would belong at k
pub record BelongsAt (column : List WeightedPlace) (p : ℕ) (k : ℕ) : Type 0 where
  pub within : k ≤ length column
  pub below : AllWithin (λ entry. entry.place < p) column 0 k
  pub above : AllWithin (λ entry. p < entry.place) column k (length column)

-- the entries list the places with a positive weight, ascending, each with its weight
pub record Lists (places : ℕ) (weights : ℕ → ℕ) (entries : List WeightedPlace) : Type 0 where
  pub column : IsColumn entries
  pub within : All (λ entry. entry.place < places) entries
  pub sound : All (λ entry. entry.weight ≡ weights entry.place) entries
  pub complete : (p : ℕ) → 0 < weights p → Any (λ entry. entry.place ≡ p) entries
