-- The first failure of an elimination has its status and its line.
use Rattle.std.proofs.Common.{ℕ, List}
use Rattle.incidence.specs.Matrix.{Matrix}
use Rattle.semiflow_elim.specs.declared.fault.ElimFault.{ElimFault}
use Rattle.semiflow_elim.specs.declared.fault.ElimFault.TheVariants as faults
use Rattle.semiflow_elim.specs.FirstFail.{IsFirstFail}
use Rattle.report.specs.FaultLines.{wide_sum_line, wide_row_line, budget_line}
use Rattle.struct_core.specs.Enumerations.{FailedStep, wide_sum, wide_row, row_budget}

pub some_failure : (m : Matrix) (columns : ℕ → List ℕ) (budget : ℕ) (fault : ElimFault) → IsFirstFail m budget fault
    → (status : ℕ) × (line : List ℕ) × FailedStep m columns budget status line
some_failure m columns budget faults.NoMemory fails = absurd fails.fails.2
some_failure m columns budget (faults.WideSum j) fails = (4, wide_sum_line (columns j), wide_sum j fails)
some_failure m columns budget (faults.WideRow j) fails = (4, wide_row_line (columns j), wide_row j fails)
some_failure m columns budget (faults.RowBudget j count) fails = (5, budget_line budget (columns j) count, row_budget j count fails)
