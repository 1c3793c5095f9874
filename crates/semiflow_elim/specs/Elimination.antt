-- One step of the elimination of a column (Colom and Silva, "Convex geometry and semiflows in P/T nets",
-- 1991, section 4): rows whose two sums at the column are equal stay, and each row of positive sum is
-- combined with each of negative sum so that the sum becomes 0. A step takes the column with the fewest
-- candidates.
use Rattle.std.specs.Prelude.{◌≡◌, ℕ, ◌+◌, ◌*◌, ◌-◌, ◌/◌, ◌^◌, ◌<◌, ◌≤◌, ◌==◌, nat_lt, Bool, List, [], All, Any, length, count_by, slice_index, slice_index_or}
use Rattle.std.specs.Int.{IsGcd}
use Rattle.incidence.specs.Matrix.{Matrix, gain_sum, loss_sum, AreNarrow}
use Rattle.semiflow_elim.specs.declared.fault.ElimFault.{ElimFault}
use Rattle.semiflow_elim.specs.declared.fault.ElimFault.TheVariants.{NoMemory, WideSum, RowBudget, WideRow}

-- the sign of a row at a column
abbrev pub is_zero : Matrix → ℕ → List ℕ → Bool
is_zero m c row = gain_sum m c (slice_index row) == loss_sum m c (slice_index row)

abbrev pub is_positive : Matrix → ℕ → List ℕ → Bool
is_positive m c row = nat_lt (loss_sum m c (slice_index row)) (gain_sum m c (slice_index row))

abbrev pub is_negative : Matrix → ℕ → List ℕ → Bool
is_negative m c row = nat_lt (gain_sum m c (slice_index row)) (loss_sum m c (slice_index row))

-- the number of zero rows and of pairs of a positive and a negative row
abbrev pub candidate_count : Matrix → ℕ → List (List ℕ) → ℕ
candidate_count m c rows = count_by (is_zero m c) rows + count_by (is_positive m c) rows * count_by (is_negative m c) rows

-- the differences of the two sums of a positive and of a negative row
abbrev pub surplus : Matrix → ℕ → List ℕ → ℕ
surplus m c row = gain_sum m c (slice_index row) - loss_sum m c (slice_index row)

abbrev pub deficit : Matrix → ℕ → List ℕ → ℕ
deficit m c row = loss_sum m c (slice_index row) - gain_sum m c (slice_index row)

-- the entries of the combination of a positive row r and a negative row s, g being the greatest common
-- divisor of their differences
abbrev pub combination : Matrix → ℕ → ℕ → List ℕ → List ℕ → ℕ → ℕ
combination m c g r s i = (deficit m c s / g) * slice_index r i + (surplus m c r / g) * slice_index s i

abbrev pub row_of : List (List ℕ) → ℕ → List ℕ
row_of rows k = slice_index_or rows k []

-- the rows i and k are a positive and a negative one
pub record IsPair (m : Matrix) (c : ℕ) (r s : List ℕ) : Type 0 where
  pub positive : loss_sum m c (slice_index r) < gain_sum m c (slice_index r)
  pub negative : gain_sum m c (slice_index s) < loss_sum m c (slice_index s)

-- an entry of the pair's combination exceeds 2^127 - 1
pub record IsWidePair (m : Matrix) (c : ℕ) (r s : List ℕ) : Type 0 where
  pub pair : IsPair m c r s
  pub g : ℕ
  pub gcd : IsGcd (surplus m c r) (deficit m c s) g
  pub at : ℕ
  pub within : at < m.rows
  pub wide : 2 ^ 127 ≤ combination m c g r s at

-- none does
abbrev pub IsNarrowPair : Matrix → ℕ → List ℕ → List ℕ → Type 0
IsNarrowPair m c r s = (g : ℕ) → IsGcd (surplus m c r) (deficit m c s) g → (i : ℕ) → i < m.rows → combination m c g r s i < 2 ^ 127

-- no sum of the rows at a column exceeds 2^127 - 1
abbrev pub AreNarrowAt : Matrix → ℕ → List (List ℕ) → Type 0
AreNarrowAt m j rows = All (λ row. AreNarrow m j (slice_index row)) rows

-- one does
abbrev pub AreWideAt : Matrix → ℕ → List (List ℕ) → Type 0
AreWideAt m j rows = Any (λ row. AreNarrow m j (slice_index row) → ⊥) rows

-- no sum of the rows at a column outside K does
abbrev pub AreNarrowOutside : Matrix → (ℕ → Type 0) → List (List ℕ) → Type 0
AreNarrowOutside m K rows = (j : ℕ) → j < m.columns → (K j → ⊥) → AreNarrowAt m j rows

-- j is the lowest column outside K at which a sum of the rows does
pub record IsFirstWide (m : Matrix) (K : ℕ → Type 0) (rows : List (List ℕ)) (j : ℕ) : Type 0 where
  pub within : j < m.columns
  pub outside : K j → ⊥
  pub wide : AreWideAt m j rows
  pub before : (i : ℕ) → i < j → (K i → ⊥) → AreNarrowAt m i rows

-- c is the column outside K with the fewest candidates, the lowest of these
pub record IsChosen (m : Matrix) (K : ℕ → Type 0) (rows : List (List ℕ)) (c : ℕ) : Type 0 where
  pub within : c < m.columns
  pub outside : K c → ⊥
  pub fewest : (j : ℕ) → j < m.columns → (K j → ⊥) → candidate_count m c rows ≤ candidate_count m j rows
  pub lowest : (j : ℕ) → j < c → (K j → ⊥) → candidate_count m c rows < candidate_count m j rows

-- the step from K doesn't fail, and takes the column c
pub record Passes (m : Matrix) (budget : ℕ) (K : ℕ → Type 0) (rows : List (List ℕ)) (c : ℕ) : Type 0 where
  pub sums : AreNarrowOutside m K rows
  pub chosen : IsChosen m K rows c
  pub budget_met : candidate_count m c rows ≤ budget
  pub pairs : (i k : ℕ) → i < length rows → k < length rows → IsPair m c (row_of rows i) (row_of rows k) → IsNarrowPair m c (row_of rows i) (row_of rows k)

-- the combination of some pair at the column c has an entry that exceeds 2^127 - 1
abbrev pub HasWidePair : Matrix → ℕ → List (List ℕ) → Type 0
HasWidePair m c rows = (i : ℕ) × (k : ℕ) × (i < length rows) × (k < length rows) × IsWidePair m c (row_of rows i) (row_of rows k)

-- the failure of the step from K; out of memory is no failure of it
abbrev pub FailsBy : Matrix → ℕ → (ℕ → Type 0) → List (List ℕ) → ElimFault → Type 0
FailsBy m budget K rows NoMemory = ⊥
FailsBy m budget K rows (WideSum j) = IsFirstWide m K rows j
FailsBy m budget K rows (RowBudget c count) = AreNarrowOutside m K rows × IsChosen m K rows c × (count ≡ candidate_count m c rows) × (budget < count)
FailsBy m budget K rows (WideRow c) = AreNarrowOutside m K rows × IsChosen m K rows c × (candidate_count m c rows ≤ budget) × HasWidePair m c rows
