-- The sums that a row carries: those at each column that wasn't taken.
use Rattle.std.specs.Prelude.{◌≡◌, ◌⊎◌, ℕ, ◌^◌, ◌<◌, ◌==◌, if◌then◌else◌, List, [], ◌∷◌, All, AllPairs, length, slice_index, slice_index_or}
use Rattle.incidence.specs.Matrix.{Matrix, AreNarrow, gain_sum, loss_sum}
use Rattle.semiflow_elim.specs.Elimination.{row_of}
use Rattle.semiflow_elim.specs.declared.carried.ColumnSums.{ColumnSums}

-- the sums of a column; where the list has none, both are 0
abbrev pub sums_in : List ColumnSums → ℕ → ColumnSums
sums_in [] j = record { column = j; gain = 0; loss = 0 }
sums_in (own ∷ sums) j = if own.column == j then own else sums_in sums j

-- the two sums of y at a column; where one exceeds 2^127 - 1 the gain is 2^127
abbrev pub AreSumsAt : Matrix → ℕ → (ℕ → ℕ) → ColumnSums → Type 0
AreSumsAt m j y own = (AreNarrow m j y × (own.gain ≡ gain_sum m j y) × (own.loss ≡ loss_sum m j y)) ⊎ ((AreNarrow m j y → ⊥) × (own.gain ≡ 2 ^ 127))

-- sums are in the order of their columns, which are below the width
pub record AreListed (width : ℕ) (sums : List ColumnSums) : Type 0 where
  pub ascending : AllPairs (λ own later. own.column < later.column) sums
  pub within : All (λ own. own.column < width) sums

-- the sums of a row at each of the first n columns outside K
pub record AreCarried (m : Matrix) (K : ℕ → Type 0) (row : List ℕ) (n : ℕ) (sums : List ColumnSums) : Type 0 where
  pub each : (j : ℕ) → j < n → (K j → ⊥) → AreSumsAt m j (slice_index row) (sums_in sums j)
  pub listed : AreListed n sums

-- the sums of row k
abbrev pub list_of : List (List ColumnSums) → ℕ → List ColumnSums
list_of carried k = slice_index_or carried k []

-- the sums of each row outside K
pub record CarryTheirs (m : Matrix) (K : ℕ → Type 0) (rows : List (List ℕ)) (carried : List (List ColumnSums)) : Type 0 where
  pub size : length carried ≡ length rows
  pub each : (k : ℕ) → k < length rows → AreCarried m K (row_of rows k) m.columns (list_of carried k)
