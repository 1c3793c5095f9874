-- The first failure of an elimination: it begins with no column taken, each step takes the column with the fewest
-- candidates, and the rows of a step are exactly the semiflows of minimal support over the columns that were taken.
use Rattle.std.specs.Prelude.{◌≡◌, ℕ, zero, suc, ◌<◌, Bool, true, false, List, replicate, slice_set}
use Rattle.incidence.specs.Matrix.{Matrix}
use Rattle.semiflow_elim.specs.Bases.{AreMinimal, in_set}
use Rattle.semiflow_elim.specs.Elimination.{Passes, FailsBy}
use Rattle.semiflow_elim.specs.declared.fault.ElimFault.{ElimFault}
use Rattle.semiflow_elim.specs.declared.fault.ElimFault.TheVariants.{NoMemory, WideSum, RowBudget, WideRow}

-- the step from a set of columns doesn't fail, and takes the column c
abbrev pub StepPasses : Matrix → ℕ → List Bool → ℕ → Type 0
StepPasses m budget taken c = (rows : List (List ℕ)) × AreMinimal m (in_set taken) rows × Passes m budget (in_set taken) rows c

-- it fails so
abbrev pub StepFails : Matrix → ℕ → List Bool → ElimFault → Type 0
StepFails m budget taken fault = (rows : List (List ℕ)) × AreMinimal m (in_set taken) rows × FailsBy m budget (in_set taken) rows fault

-- the first n steps don't fail, and lead from the empty set to this one
abbrev pub Reaches : Matrix → ℕ → ℕ → List Bool → Type 0
Reaches m budget zero taken = taken ≡ replicate m.columns false
Reaches m budget (suc n) taken =
    (before : List Bool) × (c : ℕ) × Reaches m budget n before × StepPasses m budget before c × (taken ≡ slice_set before c true)

-- as many steps as there are columns don't fail
abbrev pub EveryStepPasses : Matrix → ℕ → Type 0
EveryStepPasses m budget = (taken : List Bool) × Reaches m budget m.columns taken

-- the failure of the first step that fails
pub record IsFirstFail (m : Matrix) (budget : ℕ) (fault : ElimFault) : Type 0 where
  pub steps : ℕ
  pub within : steps < m.columns
  pub taken : List Bool
  pub before : Reaches m budget steps taken
  pub fails : StepFails m budget taken fault

-- what a call may answer: out of memory at any time, and else the first failure
abbrev pub IsExplained : Matrix → ℕ → ElimFault → Type 0
IsExplained m budget NoMemory = Unit {0}
IsExplained m budget (WideSum j) = IsFirstFail m budget (WideSum j)
IsExplained m budget (RowBudget c count) = IsFirstFail m budget (RowBudget c count)
IsExplained m budget (WideRow c) = IsFirstFail m budget (WideRow c)
