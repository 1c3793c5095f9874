-- What listing the semiflows, siphons or traps of a net gives: a text, or the line that tells why not.
use Rattle.std.specs.Prelude.{ℕ, List, Bool}
use Rattle.std.specs.Cmp.Lexicographic.{slice_cmp}
use Rattle.std.specs.Ordering.{nat_cmp, bool_cmp}
use Rattle.net_values.specs.TheList.{IsTheList}
use Rattle.incidence.specs.Matrix.{Matrix}
use Rattle.incidence.specs.Semiflow.{all_columns}
use Rattle.semiflow_elim.specs.declared.fault.ElimFault.TheVariants.{WideSum, RowBudget, WideRow}
use Rattle.semiflow_elim.specs.Bases.{IsMinimalRow}
use Rattle.semiflow_elim.specs.FirstFail.{EveryStepPasses, IsFirstFail}
use Rattle.siphon_branch.specs.Limits.{HaveAtMost, CarriesMore}
use Rattle.report.specs.Texts.{semiflows_text, sets_text}
use Rattle.report.specs.FaultLines.{wide_sum_line, wide_row_line, budget_line, limit_line}

-- no step of the elimination fails, and the list has all semiflows of minimal support with coprime entries,
-- strictly ascending
pub record AreListed (m : Matrix) (budget : ℕ) (list : List (List ℕ)) : Type 0 where
  pub passes : EveryStepPasses m budget
  pub is : IsTheList (slice_cmp nat_cmp) (IsMinimalRow m all_columns) list

-- the first step that fails does so; `columns` gives the ids of the columns
pub data FailedStep (m : Matrix) (columns : ℕ → List ℕ) (budget : ℕ) : ℕ → List ℕ → Type 0 where
  wide_sum : (j : ℕ) → IsFirstFail m budget (WideSum j) → FailedStep m columns budget 4 (wide_sum_line (columns j))
  wide_row : (j : ℕ) → IsFirstFail m budget (WideRow j) → FailedStep m columns budget 4 (wide_row_line (columns j))
  row_budget : (j count : ℕ) → IsFirstFail m budget (RowBudget j count) → FailedStep m columns budget 5 (budget_line budget (columns j) count)

-- for the semiflows of a matrix; `ids` gives the ids of its rows
pub data SemiflowOutcome (m : Matrix) (ids columns : ℕ → List ℕ) (budget : ℕ) : ℕ → List ℕ → Type 0 where
  all_semiflows : (list : List (List ℕ)) → AreListed m budget list → SemiflowOutcome m ids columns budget 0 (semiflows_text ids list)
  step_fails : (status : ℕ) (line : List ℕ) → FailedStep m columns budget status line → SemiflowOutcome m ids columns budget status line

-- more sets are grown than the limit
pub data PassedLimit (IsGrown : List Bool → Type 0) (limit : ℕ) : ℕ → List ℕ → Type 0 where
  set_limit : (carried : List (List Bool)) → CarriesMore IsGrown limit carried → PassedLimit IsGrown limit 6 (limit_line limit)

-- for the minimal siphons or traps of a net, where the grown ones are counted; `word` names them
pub data SetOutcome (IsMinimal IsGrown : List Bool → Type 0) (word : List ℕ) (ids : ℕ → List ℕ) (limit : ℕ) : ℕ → List ℕ → Type 0 where
  -- all minimal ones, strictly ascending
  all_sets : (list : List (List Bool)) → HaveAtMost IsGrown limit → IsTheList (slice_cmp bool_cmp) IsMinimal list
      → SetOutcome IsMinimal IsGrown word ids limit 0 (sets_text word ids list)
  passes_limit : (status : ℕ) (line : List ℕ) → PassedLimit IsGrown limit status line → SetOutcome IsMinimal IsGrown word ids limit status line
