-- The sums of a combination from those of its two rows: divided, they are the sums of the two, each multiplied.
use Rattle.std.specs.Prelude.{◌≡◌, ◌⊎◌, ℕ, ◌+◌, ◌*◌, ◌/◌, ◌<◌, ◌≤◌, Option, None, Some, List, All, AllPairs, length, slice_index, slice_index_or}
use Rattle.incidence.specs.Matrix.{Matrix, gain_sum, loss_sum}
use Rattle.semiflow_elim.specs.Carried.{sums_in, list_of, AreCarried, AreListed}
use Rattle.semiflow_elim.specs.Candidates.{IsCombined}
use Rattle.semiflow_elim.specs.Elimination.{row_of}
use Rattle.semiflow_elim.specs.declared.carried.ColumnSums.{ColumnSums}
use Rattle.semiflow_elim.specs.declared.merged.Multiples.{Multiples}

-- the sums of y at a column, times the divisor, are those of two rows, each multiplied
pub record AreJointAt (m : Matrix) (j : ℕ) (y : ℕ → ℕ) (by : Multiples) (first second : ColumnSums) : Type 0 where
  pub gain : by.divisor * gain_sum m j y ≡ by.first * first.gain + by.second * second.gain
  pub loss : by.divisor * loss_sum m j y ≡ by.first * first.loss + by.second * second.loss

-- so at each column outside K
abbrev pub AreJoint : Matrix → (ℕ → Type 0) → (ℕ → ℕ) → Multiples → List ColumnSums → List ColumnSums → Type 0
AreJoint m K y by first second = (j : ℕ) → j < m.columns → (K j → ⊥) → AreJointAt m j y by (sums_in first j) (sums_in second j)

-- sums in the order of their columns, which are from n on and below the width
pub record AreFrom (n width : ℕ) (sums : List ColumnSums) : Type 0 where
  pub ascending : AllPairs (λ own later. own.column < later.column) sums
  pub above : All (λ own. n ≤ own.column) sums
  pub within : All (λ own. own.column < width) sums

-- the first sums are of this column
pub record BeginsAt (j : ℕ) (sums : List ColumnSums) : Type 0 where
  pub some : 0 < length sums
  pub column : (slice_index_or sums 0 record { column = 0; gain = 0; loss = 0 }).column ≡ j

-- the lowest column of two lists of sums
abbrev pub IsLowest : ℕ → List ColumnSums → List ColumnSums → Option ℕ → Type 0
IsLowest width first second None = (length first ≡ 0) × (length second ≡ 0)
IsLowest width first second (Some j) = AreFrom j width first × AreFrom j width second × (BeginsAt j first ⊎ BeginsAt j second)

-- the sums of a column, the lowest one, were taken off a list
pub record AreTaken (width : ℕ) (sums : List ColumnSums) (j : ℕ) (own : ColumnSums) (rest : List ColumnSums) : Type 0 where
  pub sums_are : own ≡ sums_in sums j
  pub from : AreFrom (j + 1) width rest
  pub same : (i : ℕ) → j < i → sums_in rest i ≡ sums_in sums i
  pub shorter : length rest ≤ length sums
  pub begins : BeginsAt j sums → length rest < length sums

-- the sums of y outside K were made for the columns below n, and these are left of the two lists
pub record AreMerged (m : Matrix) (K : ℕ → Type 0) (y : List ℕ) (first second left right : List ColumnSums) (n : ℕ) (sums : List ColumnSums) : Type 0 where
  pub carried : AreCarried m K y n sums
  pub few : n ≤ m.columns
  pub left_from : AreFrom n m.columns left
  pub right_from : AreFrom n m.columns right
  pub left_same : (j : ℕ) → n ≤ j → sums_in left j ≡ sums_in first j
  pub right_same : (j : ℕ) → n ≤ j → sums_in right j ≡ sums_in second j

-- rows carry sums that are those of the rows, exactly, at each column outside K
pub record AreExact (m : Matrix) (K : ℕ → Type 0) (rows : List (List ℕ)) (carried : List (List ColumnSums)) : Type 0 where
  pub size : length carried ≡ length rows
  pub listed : (k : ℕ) → k < length rows → AreListed m.columns (list_of carried k)
  pub gains : (k j : ℕ) → k < length rows → j < m.columns → (K j → ⊥) → (sums_in (list_of carried k) j).gain ≡ gain_sum m j (slice_index (row_of rows k))
  pub losses : (k j : ℕ) → k < length rows → j < m.columns → (K j → ⊥) → (sums_in (list_of carried k) j).loss ≡ loss_sum m j (slice_index (row_of rows k))

-- the combination of two rows by their differences a and b, with the multiples that made it
pub record IsCombinedBy (r s : List ℕ) (a b : ℕ) (row : List ℕ) (by : Multiples) : Type 0 where
  pub combined : IsCombined r s a b row
  pub first : by.first ≡ b / combined.g
  pub second : by.second ≡ a / combined.g
  pub divisor : by.divisor ≡ combined.divisor
