-- The counts of a column: of how many rows a sum there is wide, positive or negative.
use Rattle.std.specs.Prelude.{◌≡◌, ℕ, ◌+◌, ◌*◌, ◌-◌, ◌^◌, ◌<◌, ◌≤◌, ◌==◌, nat_lt, if◌then◌else◌, Bool, List, length, take, count_by, slice_index_or}
use Rattle.semiflow_elim.specs.Carried.{sums_in}
use Rattle.semiflow_elim.specs.declared.carried.ColumnSums.{ColumnSums}
use Rattle.semiflow_elim.specs.declared.counts.ColumnCounts.{ColumnCounts}

abbrev pub is_wide : ColumnSums → Bool
is_wide own = own.gain == 2 ^ 127

abbrev pub is_above : ColumnSums → Bool
is_above own = nat_lt own.loss own.gain

abbrev pub is_below : ColumnSums → Bool
is_below own = nat_lt own.gain own.loss

-- the counts of a column
abbrev pub counts_of : List ColumnCounts → ℕ → ColumnCounts
counts_of counts j = slice_index_or counts j record { wide = 0; positive = 0; negative = 0 }

-- the counts with one more row, of these sums
abbrev pub counted : ColumnSums → ColumnCounts → ColumnCounts
counted own counts = record {
  wide = counts.wide + (if is_wide own then 1 else 0);
  positive = counts.positive + (if is_above own then 1 else 0);
  negative = counts.negative + (if is_below own then 1 else 0);
}

-- a row of these sums is one of those that were counted
pub record IsIncluded (own : ColumnSums) (counts : ColumnCounts) : Type 0 where
  pub wide : (if is_wide own then 1 else 0) ≤ counts.wide
  pub positive : (if is_above own then 1 else 0) ≤ counts.positive
  pub negative : (if is_below own then 1 else 0) ≤ counts.negative

-- so at each column
abbrev pub AreIncluded : List ColumnSums → List ColumnCounts → Type 0
AreIncluded sums counts = (j : ℕ) → j < length counts → IsIncluded (sums_in sums j) (counts_of counts j)

-- one more row was counted at each column
pub record AreCountedIn (old : List ColumnCounts) (sums : List ColumnSums) (new : List ColumnCounts) : Type 0 where
  pub size : length new ≡ length old
  pub each : (j : ℕ) → j < length old → counts_of new j ≡ counted (sums_in sums j) (counts_of old j)

-- the first n rows were counted at each column
pub record AreCounted (carried : List (List ColumnSums)) (n width : ℕ) (counts : List ColumnCounts) : Type 0 where
  pub size : length counts ≡ width
  pub wide : (j : ℕ) → j < width → (counts_of counts j).wide ≡ count_by (λ sums. is_wide (sums_in sums j)) (take n carried)
  pub positive : (j : ℕ) → j < width → (counts_of counts j).positive ≡ count_by (λ sums. is_above (sums_in sums j)) (take n carried)
  pub negative : (j : ℕ) → j < width → (counts_of counts j).negative ≡ count_by (λ sums. is_below (sums_in sums j)) (take n carried)

-- each count over the rows is that over the old ones without that of a row of these sums
abbrev pub IsUncounted : List (List ColumnSums) → List (List ColumnSums) → List ColumnSums → Type 0
IsUncounted old new sums = (counts : List ColumnSums → Bool) → count_by counts new + (if counts sums then 1 else 0) ≡ count_by counts old

-- the candidate count of a column, of so many rows in all
abbrev pub candidates_at : List ColumnCounts → ℕ → ℕ → ℕ
candidates_at counts total j = (total - ((counts_of counts j).positive + (counts_of counts j).negative)) + (counts_of counts j).positive * (counts_of counts j).negative
