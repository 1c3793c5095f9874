-- Laws of semiflows of minimal support and of their elimination.
use Rattle.std.specs.Prelude.{◌≡◌, ℕ, ◌*◌, ◌<◌, Bool, List, IsTrue}
use Rattle.std.specs.Cmp.Lexicographic.{slice_cmp}
use Rattle.std.specs.Ordering.{nat_cmp}
use Rattle.net_values.specs.TheList.{IsTheList}
use Rattle.incidence.specs.Matrix.{Matrix}
use Rattle.incidence.specs.Semiflow.{IsWithin, IsSemiflow, IsMinimal, all_columns}
use Rattle.semiflow_elim.specs.Bases.{IsBasis, AreMinimal, IsMinimalRow}
use Rattle.semiflow_elim.specs.Generated.{IsGenerated}
use Rattle.semiflow_elim.specs.FirstFail.{EveryStepPasses, IsFirstFail}
use Rattle.semiflow_elim.specs.declared.fault.ElimFault.{ElimFault}

-- the columns at which a test gives true
abbrev pub is_in : (ℕ → Bool) → ℕ → Type 0
is_in taken j = IsTrue (taken j)

-- positive multiples of the two vectors are equal
pub record AreProportional (m : Matrix) (z y : ℕ → ℕ) : Type 0 where
  pub a : ℕ
  pub b : ℕ
  pub a_positive : 0 < a
  pub b_positive : 0 < b
  pub same : (i : ℕ) → i < m.rows → b * z i ≡ a * y i

abbrev pub MinimalOnesAreProportional : Type 0
MinimalOnesAreProportional = (m : Matrix) (taken : ℕ → Bool) (y z : ℕ → ℕ) → IsMinimal m (is_in taken) y → IsSemiflow m (is_in taken) z → IsWithin m z y → AreProportional m z y

abbrev pub BasesAreMinimal : Type 0
BasesAreMinimal = (m : Matrix) (taken : ℕ → Bool) (rows : List (List ℕ)) → IsBasis m (is_in taken) rows → AreMinimal m (is_in taken) rows

abbrev pub BasesGenerate : Type 0
BasesGenerate = (m : Matrix) (taken : ℕ → Bool) (rows : List (List ℕ)) → IsBasis m (is_in taken) rows → (y : ℕ → ℕ) → IsSemiflow m (is_in taken) y → IsGenerated m rows y

-- each column of the first matrix is in the second
abbrev pub HasColumnsOf : Matrix → Matrix → Type 0
HasColumnsOf m n = (j : ℕ) → j < m.columns → (k : ℕ) × (k < n.columns) × ((i : ℕ) → i < m.rows → (m.gain i j ≡ n.gain i k) × (m.loss i j ≡ n.loss i k))

-- two matrices with the same columns, which may occur in another order or more than once
pub record HaveSameColumns (m n : Matrix) : Type 0 where
  pub rows : m.rows ≡ n.rows
  pub forth : HasColumnsOf m n
  pub back : HasColumnsOf n m

-- the list of the minimal semiflows doesn't depend on the order of the columns
abbrev pub OrderIsFree : Type 0
OrderIsFree = (m n : Matrix) (list other : List (List ℕ)) → HaveSameColumns m n → IsTheList (slice_cmp nat_cmp) (IsMinimalRow m all_columns) list → IsTheList (slice_cmp nat_cmp) (IsMinimalRow n all_columns) other → list ≡ other

-- an elimination has at most one first failure
abbrev pub FirstFailuresAreOne : Type 0
FirstFailuresAreOne = (m : Matrix) (budget : ℕ) (fault other : ElimFault) → IsFirstFail m budget fault → IsFirstFail m budget other → fault ≡ other

-- and none where every step passes
abbrev pub FailuresExcludePassing : Type 0
FailuresExcludePassing = (m : Matrix) (budget : ℕ) (fault : ElimFault) → IsFirstFail m budget fault → EveryStepPasses m budget → ⊥
