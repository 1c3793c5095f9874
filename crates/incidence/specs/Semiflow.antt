-- Semiflows over a set of columns, and those of minimal support (Colom and Silva, "Convex geometry and
-- semiflows in P/T nets", 1991, section 2). A set of columns is a predicate; vectors are functions of the
-- row, and only their entries below the number of rows count.
use Rattle.std.specs.Prelude.{◌≡◌, ℕ, ◌<◌}
use Rattle.std.specs.Int.{◌∣◌}
use Rattle.incidence.specs.Matrix.{Matrix, gain_sum, loss_sum}

-- every column
abbrev pub all_columns : ℕ → Type 0
all_columns j = Unit {0}

-- some entry is positive
abbrev pub IsNonzero : Matrix → (ℕ → ℕ) → Type 0
IsNonzero m y = (i : ℕ) × (i < m.rows) × (0 < y i)

-- the support of z, the set of the rows where it is positive, is a subset of the support of y
abbrev pub IsWithin : Matrix → (ℕ → ℕ) → (ℕ → ℕ) → Type 0
IsWithin m z y = (i : ℕ) → i < m.rows → 0 < z i → 0 < y i

-- a semiflow over the columns K: a nonzero vector of natural numbers whose sum with the entries of each
-- column of K is 0
pub record IsSemiflow (m : Matrix) (K : ℕ → Type 0) (y : ℕ → ℕ) : Type 0 where
  pub nonzero : IsNonzero m y
  pub balanced : (j : ℕ) → j < m.columns → K j → gain_sum m j y ≡ loss_sum m j y

-- no number but 1 divides every entry
abbrev pub IsCoprime : Matrix → (ℕ → ℕ) → Type 0
IsCoprime m y = (d : ℕ) → ((i : ℕ) → i < m.rows → d ∣ y i) → d ≡ 1

-- a semiflow with coprime entries whose support has no smaller support of a semiflow in it
pub record IsMinimal (m : Matrix) (K : ℕ → Type 0) (y : ℕ → ℕ) : Type 0 where
  pub semiflow : IsSemiflow m K y
  pub coprime : IsCoprime m y
  pub least : (z : ℕ → ℕ) → IsSemiflow m K z → IsWithin m z y → IsWithin m y z
