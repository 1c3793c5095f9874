-- The rows that stay in a step: the zero rows, and what was added to the rows, in any order.
use Rattle.std.specs.Prelude.{◌≡◌, ◌≢◌, ℕ, ◌+◌, ◌-◌, ◌<◌, ◌≤◌, ◌==◌, List, length, take, count_by, slice_index_or}
use Rattle.semiflow_elim.specs.Candidates.{sums_of}
use Rattle.semiflow_elim.specs.Carried.{list_of}
use Rattle.semiflow_elim.specs.Elimination.{row_of}
use Rattle.semiflow_elim.specs.declared.carried.ColumnSums.{ColumnSums}
use Rattle.semiflow_elim.specs.declared.signs.RowSums.{RowSums}

-- row a stays: its two sums are equal, or it has none
abbrev pub Stays : List RowSums → ℕ → Type 0
Stays sums a = (sums_of sums a).gain ≡ (sums_of sums a).loss

-- a member is dropped, and the last takes its place
pub record IsDropped {X : Type 0} (old new : List X) (i : ℕ) : Type 0 where
  pub size : length new + 1 ≡ length old
  pub here : (d : X) → i + 1 < length old → slice_index_or new i d ≡ slice_index_or old (length old - 1) d
  pub others : (k : ℕ) (d : X) → k ≢ i → k + 1 < length old → slice_index_or new k d ≡ slice_index_or old k d

-- two rows that stay, which are two of the old ones
pub record AreTwo (sums : List RowSums) (old : List (List ℕ)) (row other : List ℕ) : Type 0 where
  pub a : ℕ
  pub b : ℕ
  pub apart : a ≢ b
  pub first_within : a < length old
  pub second_within : b < length old
  pub first_stays : Stays sums a
  pub second_stays : Stays sums b
  pub first : row ≡ row_of old a
  pub second : other ≡ row_of old b

-- of the rows from i on those that don't stay were dropped, with what they carry
pub record AreSwept (sums : List RowSums) (old : List (List ℕ)) (old_carried : List (List ColumnSums)) (now : List (List ℕ)) (carried : List (List ColumnSums)) (i : ℕ) : Type 0 where
  pub within : i ≤ length now
  pub carried_size : length carried ≡ length now
  pub left : (k : ℕ) → k < i → row_of now k ≡ row_of old k
  pub carried_left : (k : ℕ) → k < i → list_of carried k ≡ list_of old_carried k
  pub below : i ≤ length old
  pub sources : (j : ℕ) → i ≤ j → j < length now → (a : ℕ) × (i ≤ a) × (a < length old) × Stays sums a × (row_of now j ≡ row_of old a) × (list_of carried j ≡ list_of old_carried a)
  pub places : (a : ℕ) → i ≤ a → a < length old → Stays sums a → (j : ℕ) × (i ≤ j) × (j < length now) × (row_of now j ≡ row_of old a)
  pub two : (j k : ℕ) → i ≤ j → j < k → k < length now → AreTwo sums old (row_of now j) (row_of now k)
  pub count : length now + count_by (λ own. own.gain == own.loss) (take i sums) ≤ i + count_by (λ own. own.gain == own.loss) sums + (length old - length sums)

-- the rows that stay, with what they carry
pub record AreKept (sums : List RowSums) (old : List (List ℕ)) (old_carried : List (List ColumnSums)) (new : List (List ℕ)) (carried : List (List ColumnSums)) : Type 0 where
  pub carried_size : length carried ≡ length new
  pub sources : (j : ℕ) → j < length new → (a : ℕ) × (a < length old) × Stays sums a × (row_of new j ≡ row_of old a) × (list_of carried j ≡ list_of old_carried a)
  pub places : (a : ℕ) → a < length old → Stays sums a → (j : ℕ) × (j < length new) × (row_of new j ≡ row_of old a)
  pub two : (j k : ℕ) → j < k → k < length new → AreTwo sums old (row_of new j) (row_of new k)
  pub count : length new ≤ count_by (λ own. own.gain == own.loss) sums + (length old - length sums)
