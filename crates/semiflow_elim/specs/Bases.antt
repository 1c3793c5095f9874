-- Lists of semiflows of minimal support.
use Rattle.std.specs.Prelude.{◌≡◌, ◌↔◌, ℕ, ◌<◌, Bool, IsTrue, List, length, replicate, slice_set, slice_index_or, All, AllPairs, Any, Contains, slice_index}
use Rattle.net_values.specs.PlaceSets.{has}
use Rattle.support_prune.specs.Pools.{AreApart}
use Rattle.incidence.specs.Matrix.{Matrix}
use Rattle.incidence.specs.Semiflow.{IsWithin, IsSemiflow, IsCoprime, IsMinimal}

-- the columns of a set
abbrev pub in_set : List Bool → ℕ → Type 0
in_set taken j = IsTrue (has taken j)

-- the list has an entry for each row of the matrix, and is a semiflow over K with coprime entries whose
-- support is minimal
pub record IsMinimalRow (m : Matrix) (K : ℕ → Type 0) (row : List ℕ) : Type 0 where
  pub size : length row ≡ m.rows
  pub minimal : IsMinimal m K (slice_index row)

-- the rows are exactly the semiflows over K of minimal support with coprime entries, each once, in any order
pub record AreMinimal (m : Matrix) (K : ℕ → Type 0) (rows : List (List ℕ)) : Type 0 where
  pub members : (x : List ℕ) → (Contains rows x) ↔ IsMinimalRow m K x
  pub once : AllPairs (λ row later. row ≡ later → ⊥) rows

-- rows that are semiflows over K with coprime entries, of which no support is in another's, with one below
-- each semiflow over K
pub record IsBasis (m : Matrix) (K : ℕ → Type 0) (rows : List (List ℕ)) : Type 0 where
  pub size : All (λ row. length row ≡ m.rows) rows
  pub semiflow : All (λ row. IsSemiflow m K (slice_index row)) rows
  pub coprime : All (λ row. IsCoprime m (slice_index row)) rows
  pub apart : AllPairs AreApart rows
  pub below : (y : ℕ → ℕ) → IsSemiflow m K y → Any (λ row. IsWithin m (slice_index row) y) rows

-- some row of a pool has a support in that of y
abbrev pub HasBelow : Matrix → List (List ℕ) → (ℕ → ℕ) → Type 0
HasBelow m pool y = Any (λ row. IsWithin m (slice_index row) y) pool

-- the list has an entry for each row of the matrix, and is a semiflow over K with coprime entries
pub record IsGood (m : Matrix) (K : ℕ → Type 0) (row : List ℕ) : Type 0 where
  pub size : length row ≡ m.rows
  pub semiflow : IsSemiflow m K (slice_index row)
  pub coprime : IsCoprime m (slice_index row)

-- the first i rows of n entries each with a 1 at its own position and 0 elsewhere
pub record AreUnits (n : ℕ) (rows : List (List ℕ)) (i : ℕ) : Type 0 where
  pub count : length rows ≡ i
  pub units : (k : ℕ) (d : List ℕ) → k < i → slice_index_or rows k d ≡ slice_set (replicate n 0) k 1
