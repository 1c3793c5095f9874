-- The candidates of an elimination step: the combinations of its pairs, its rows' sums, and how many pairs there
-- are.
use Rattle.std.specs.Prelude.{◌≡◌, ℕ, ◌+◌, ◌*◌, ◌/◌, ◌^◌, ◌<◌, ◌≤◌, ◌==◌, if◌then◌else◌, nat_lt, count_by, Bool, List, length, slice_index, slice_index_or, take}
use Rattle.std.specs.Int.{IsGcd}
use Rattle.incidence.specs.Matrix.{Matrix, AreNarrow, gain_sum, loss_sum}
use Rattle.semiflow_elim.specs.declared.carried.ColumnSums.{ColumnSums}
use Rattle.semiflow_elim.specs.declared.signs.RowSums.{RowSums}
use Rattle.semiflow_elim.specs.Arithmetic.{IsScaledSum, IsGcdOfAll, HasWideEntry}
use Rattle.semiflow_elim.specs.Bases.{IsBasis, in_set}
use Rattle.semiflow_elim.specs.Carried.{list_of, sums_in}
use Rattle.semiflow_elim.specs.Elimination.{row_of}

-- the combination of two rows by their differences a and b, divided by the greatest common divisor of its
-- entries
pub record IsCombined (r s : List ℕ) (a b : ℕ) (row : List ℕ) : Type 0 where
  pub g : ℕ
  pub gcd : IsGcd a b g
  pub sums : List ℕ
  pub sums_are : IsScaledSum (b / g) r (a / g) s (length r) sums
  pub divisor : ℕ
  pub divisor_is : IsGcdOfAll sums (length r) divisor
  pub size : length row ≡ length r
  pub entries : (i : ℕ) → slice_index row i ≡ slice_index sums i / divisor

-- no entry of the combination exceeds 2^127 - 1
abbrev pub IsNarrowCombination : List ℕ → List ℕ → ℕ → ℕ → Type 0
IsNarrowCombination r s a b = (g : ℕ) → IsGcd a b g → (i : ℕ) → i < length r → (b / g) * slice_index r i + (a / g) * slice_index s i < 2 ^ 127

-- one does
pub record IsWideCombination (r s : List ℕ) (a b : ℕ) : Type 0 where
  pub g : ℕ
  pub gcd : IsGcd a b g
  pub wide : HasWideEntry (b / g) r (a / g) s

-- the two sums of each row
abbrev pub sums_of : List RowSums → ℕ → RowSums
sums_of sums k = slice_index_or sums k record { gain = 0; loss = 0; largest = 0 }

-- a number that no entry of a row exceeds is known where its sums differ
abbrev pub HasLargest : List ℕ → RowSums → Type 0
HasLargest row own = (own.gain ≡ own.loss → ⊥) → (i : ℕ) → slice_index row i ≤ own.largest

-- the sums of one row at a column, read from what it carries
pub record IsRead (row : List ℕ) (carried : ColumnSums) (own : RowSums) : Type 0 where
  pub gain : own.gain ≡ carried.gain
  pub loss : own.loss ≡ carried.loss
  pub largest : HasLargest row own

-- those of the first n rows
pub record AreRead (c : ℕ) (rows : List (List ℕ)) (carried : List (List ColumnSums)) (sums : List RowSums) (n : ℕ) : Type 0 where
  pub size : length sums ≡ n
  pub each : (k : ℕ) → k < n → IsRead (row_of rows k) (sums_in (list_of carried k) c) (sums_of sums k)

-- those of the first i rows, and sums of 0 from there on
pub record AreReadUpTo (c : ℕ) (rows : List (List ℕ)) (carried : List (List ColumnSums)) (sums : List RowSums) (i : ℕ) : Type 0 where
  pub size : length sums ≡ length rows
  pub each : (k : ℕ) → k < i → IsRead (row_of rows k) (sums_in (list_of carried k) c) (sums_of sums k)
  pub rest : (k : ℕ) → i ≤ k → k < length rows → sums_of sums k ≡ record { gain = 0; loss = 0; largest = 0 }

-- the rows of a step from some set of columns with their sums at the column of the step
pub record IsStep (m : Matrix) (c : ℕ) (rows : List (List ℕ)) (sums : List RowSums) : Type 0 where
  pub column : c < m.columns
  pub taken : List Bool
  pub basis : IsBasis m (in_set taken) rows
  pub size : length sums ≡ length rows
  pub gains : (k : ℕ) → k < length rows → (sums_of sums k).gain ≡ gain_sum m c (slice_index (row_of rows k))
  pub losses : (k : ℕ) → k < length rows → (sums_of sums k).loss ≡ loss_sum m c (slice_index (row_of rows k))
  pub largest : (k : ℕ) → k < length rows → HasLargest (row_of rows k) (sums_of sums k)

-- the two sums of the first n rows, which are narrow
pub record AreSums (m : Matrix) (c : ℕ) (rows : List (List ℕ)) (sums : List RowSums) (n : ℕ) : Type 0 where
  pub size : length sums ≡ n
  pub gains : (k : ℕ) → k < n → (sums_of sums k).gain ≡ gain_sum m c (slice_index (row_of rows k))
  pub losses : (k : ℕ) → k < n → (sums_of sums k).loss ≡ loss_sum m c (slice_index (row_of rows k))
  pub narrow : (k : ℕ) → k < n → AreNarrow m c (slice_index (row_of rows k))
  pub largest : (k : ℕ) → k < n → HasLargest (row_of rows k) (sums_of sums k)

-- the number of zero rows and of pairs
abbrev pub signs_total : List RowSums → ℕ
signs_total sums = count_by (λ own. own.gain == own.loss) sums + count_by (λ own. nat_lt own.loss own.gain) sums * count_by (λ own. nat_lt own.gain own.loss) sums

-- how many pairs a row of these sums makes with another one
abbrev pub pair_offers : RowSums → RowSums → ℕ
pair_offers first second = if nat_lt first.loss first.gain then (if nat_lt second.gain second.loss then 1 else 0) else 0

-- how many it makes with the first n rows, and how many the first n rows make with all
abbrev pub row_offers : RowSums → List RowSums → ℕ → ℕ
row_offers first sums n = if nat_lt first.loss first.gain then count_by (λ own. nat_lt own.gain own.loss) (take n sums) else 0

abbrev pub all_offers : List RowSums → ℕ → ℕ
all_offers sums n = count_by (λ own. nat_lt own.loss own.gain) (take n sums) * count_by (λ own. nat_lt own.gain own.loss) sums
