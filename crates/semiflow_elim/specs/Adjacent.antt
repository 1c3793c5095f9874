-- Adjacent rows, by the combinatorial test of the double description method (Fukuda and Prodon, "Double
-- description method revisited", 1996): of the combinations of a positive and a negative row, those of minimal
-- support are the ones of adjacent rows.
use Rattle.std.specs.Prelude.{◌≡◌, ◌⊎◌, ℕ, ◌+◌, ◌<◌, List, length, slice_index, All, AllPairs}
use Rattle.support_prune.specs.Pools.{AreApart}
use Rattle.incidence.specs.Matrix.{Matrix, gain_sum, loss_sum}
use Rattle.incidence.specs.Semiflow.{IsWithin}
use Rattle.semiflow_elim.specs.Bases.{HasBelow}
use Rattle.semiflow_elim.specs.Candidates.{IsCombined}
use Rattle.semiflow_elim.specs.Elimination.{IsPair, IsNarrowPair, row_of, surplus, deficit}

-- the support of row j is in the union of those of the rows i and k
abbrev pub IsInUnion : Matrix → List (List ℕ) → ℕ → ℕ → ℕ → Type 0
IsInUnion m rows i k j = IsWithin m (slice_index (row_of rows j)) (λ x. slice_index (row_of rows i) x + slice_index (row_of rows k) x)

-- of the first n rows none but the rows i and k has a support in the union of theirs
abbrev pub AloneBelow : Matrix → List (List ℕ) → ℕ → ℕ → ℕ → Type 0
AloneBelow m rows i k n = (j : ℕ) → j < n → IsInUnion m rows i k j → (j ≡ i) ⊎ (j ≡ k)

-- no third row has
abbrev pub AreAdjacent : Matrix → List (List ℕ) → ℕ → ℕ → Type 0
AreAdjacent m rows i k = AloneBelow m rows i k (length rows)

-- the row has only one positive entry
pub record HasOne (row : List ℕ) : Type 0 where
  pub at : ℕ
  pub positive : 0 < slice_index row at
  pub only : (x : ℕ) → 0 < slice_index row x → x ≡ at

-- row j is a third row in the union
pub record IsThird (m : Matrix) (rows : List (List ℕ)) (i k j : ℕ) : Type 0 where
  pub within : IsInUnion m rows i k j
  pub not_first : j ≡ i → ⊥
  pub not_second : j ≡ k → ⊥

-- the row is the zero row i
pub record IsZeroRow (m : Matrix) (c : ℕ) (rows : List (List ℕ)) (i : ℕ) (row : List ℕ) : Type 0 where
  pub within : i < length rows
  pub equal : gain_sum m c (slice_index (row_of rows i)) ≡ loss_sum m c (slice_index (row_of rows i))
  pub same : row ≡ row_of rows i

-- the row is the combination of the positive row i and the negative row k, which are adjacent
pub record IsJoinedRow (m : Matrix) (c : ℕ) (rows : List (List ℕ)) (i k : ℕ) (row : List ℕ) : Type 0 where
  pub first : i < length rows
  pub second : k < length rows
  pub pair : IsPair m c (row_of rows i) (row_of rows k)
  pub adjacent : AreAdjacent m rows i k
  pub combined : IsCombined (row_of rows i) (row_of rows k) (surplus m c (row_of rows i)) (deficit m c (row_of rows k)) row

-- the pair of the rows a and b comes before that of i and n
abbrev pub IsEarlier : ℕ → ℕ → ℕ → ℕ → Type 0
IsEarlier a b i n = (a < i) ⊎ ((a ≡ i) × (b < n))

-- the row is the combination of an adjacent pair before that of i and n
abbrev pub ComesFrom : Matrix → ℕ → List (List ℕ) → ℕ → ℕ → List ℕ → Type 0
ComesFrom m c rows i n row = (a : ℕ) × (b : ℕ) × IsEarlier a b i n × IsJoinedRow m c rows a b row

-- the combinations of the adjacent pairs before that of i and n were listed, and no combination of a pair before
-- it is wide
pub record AreJoined (m : Matrix) (c : ℕ) (rows joined : List (List ℕ)) (i n : ℕ) : Type 0 where
  pub sources : All (ComesFrom m c rows i n) joined
  pub apart : AllPairs AreApart joined
  pub pairs : (a b : ℕ) → IsEarlier a b i n → b < length rows → IsPair m c (row_of rows a) (row_of rows b) → AreAdjacent m rows a b → HasBelow m joined (λ x. slice_index (row_of rows a) x + slice_index (row_of rows b) x)
  pub narrow : (a b : ℕ) → IsEarlier a b i n → b < length rows → IsPair m c (row_of rows a) (row_of rows b) → IsNarrowPair m c (row_of rows a) (row_of rows b)
