-- Of each matrix and each net there is one answer: a list of all members, which is one since it ascends, or the
-- step that fails first, or more grown sets than the limit, and these exclude each other.
use Rattle.std.proofs.Common.{◌≡◌, ℕ, List, [], refl, sym, ap, ◌∙◌}
use Rattle.std.specs.Prelude.{Bool}
use Rattle.incidence.specs.Semiflow.{all_columns}
use Rattle.incidence.specs.Matrix.{Matrix}
use Rattle.semiflow_elim.specs.declared.fault.ElimFault.{ElimFault}
use Rattle.semiflow_elim.specs.declared.fault.ElimFault.TheVariants as faults
use Rattle.semiflow_elim.specs.Bases.{IsMinimalRow}
use Rattle.semiflow_elim.specs.FirstFail.{IsFirstFail}
use Rattle.siphon_branch.specs.Limits.{HaveAtMost, CarriesMore}
use Rattle.report.specs.Texts.{semiflows_text, sets_text}
use Rattle.report.specs.FaultLines.{wide_sum_line, wide_row_line, budget_line}
use Rattle.struct_core.specs.Enumerations.{AreListed, FailedStep, wide_sum, wide_row, row_budget, SemiflowOutcome, all_semiflows, step_fails, PassedLimit, set_limit, SetOutcome, all_sets, passes_limit}
use Rattle.net_values.proofs.OneList.{one_list_of_vectors, one_list_of_sets}
use Rattle.semiflow_elim.proofs.OneFailure.{first_failures_are_one, failures_exclude_passing}

-- the status and the line of a step that fails
abbrev fail_status : ElimFault → ℕ
fail_status faults.NoMemory = 10
fail_status (faults.WideSum j) = 4
fail_status (faults.WideRow j) = 4
fail_status (faults.RowBudget j count) = 5

abbrev fail_line : (ℕ → List ℕ) → ℕ → ElimFault → List ℕ
fail_line columns budget faults.NoMemory = []
fail_line columns budget (faults.WideSum j) = wide_sum_line (columns j)
fail_line columns budget (faults.WideRow j) = wide_row_line (columns j)
fail_line columns budget (faults.RowBudget j count) = budget_line budget (columns j) count

pub record IsFailing (m : Matrix) (columns : ℕ → List ℕ) (budget status : ℕ) (line : List ℕ) : Type 0 where
  pub fault : ElimFault
  pub fails : IsFirstFail m budget fault
  pub status_is : status ≡ fail_status fault
  pub line_is : line ≡ fail_line columns budget fault

pub failing : (m : Matrix) (columns : ℕ → List ℕ) (budget status : ℕ) (line : List ℕ) → FailedStep m columns budget status line
    → IsFailing m columns budget status line
failing m columns budget _ _ (wide_sum j fails) = record { fault = faults.WideSum j; fails = fails; status_is = refl; line_is = refl }
failing m columns budget _ _ (wide_row j fails) = record { fault = faults.WideRow j; fails = fails; status_is = refl; line_is = refl }
failing m columns budget _ _ (row_budget j count fails) =
    record { fault = faults.RowBudget j count; fails = fails; status_is = refl; line_is = refl }

pub one_failure : (m : Matrix) (columns : ℕ → List ℕ) (budget status other : ℕ) (line text : List ℕ) → IsFailing m columns budget status line
    → IsFailing m columns budget other text → (status ≡ other) × (line ≡ text)
one_failure m columns budget status other line text one another =
    let same : one.fault ≡ another.fault = first_failures_are_one m budget one.fault another.fault one.fails another.fails in (
      one.status_is ∙ ap fail_status same ∙ sym another.status_is,
      one.line_is ∙ ap (fail_line columns budget) same ∙ sym another.line_is,
    )

pub listed_or_fails : (m : Matrix) (columns : ℕ → List ℕ) (budget status : ℕ) (line : List ℕ) (list : List (List ℕ)) → AreListed m budget list
    → FailedStep m columns budget status line → ⊥
listed_or_fails m columns budget status line list listed fails =
    let is = failing m columns budget status line fails in failures_exclude_passing m budget is.fault is.fails listed.passes

pub one_semiflow_list : (m : Matrix) (budget : ℕ) (one other : List (List ℕ)) → AreListed m budget one → AreListed m budget other → one ≡ other
one_semiflow_list m budget one other is also = one_list_of_vectors (IsMinimalRow m all_columns) one other is.is also.is

pub one_semiflow_outcome : (m : Matrix) (ids columns : ℕ → List ℕ) (budget status other : ℕ) (text line : List ℕ)
    → SemiflowOutcome m ids columns budget status text → SemiflowOutcome m ids columns budget other line → (status ≡ other) × (text ≡ line)
one_semiflow_outcome m ids columns budget _ _ _ _ (all_semiflows list listed) (all_semiflows others also) =
    (refl, ap (λ (rows : List (List ℕ)). semiflows_text ids rows) (one_semiflow_list m budget list others listed also))
one_semiflow_outcome m ids columns budget _ _ _ _ (all_semiflows list listed) (step_fails status line fails) =
    absurd (listed_or_fails m columns budget status line list listed fails)
one_semiflow_outcome m ids columns budget _ _ _ _ (step_fails status line fails) (all_semiflows list listed) =
    absurd (listed_or_fails m columns budget status line list listed fails)
one_semiflow_outcome m ids columns budget _ _ _ _ (step_fails status line fails) (step_fails other text also) =
    one_failure m columns budget status other line text (failing m columns budget status line fails) (failing m columns budget other text also)

-- few and many exclude each other
abbrev pub Apart : (List Bool → Type 0) → ℕ → Type 0
Apart IsGrown limit = (carried : List (List Bool)) → HaveAtMost IsGrown limit → CarriesMore IsGrown limit carried → ⊥

pub few_or_passed : (IsGrown : List Bool → Type 0) (limit status : ℕ) (line : List ℕ) → Apart IsGrown limit → HaveAtMost IsGrown limit
    → PassedLimit IsGrown limit status line → ⊥
few_or_passed IsGrown limit _ _ apart few (set_limit carried many) = apart carried few many

pub one_passing : (IsGrown : List Bool → Type 0) (limit status other : ℕ) (line text : List ℕ) → PassedLimit IsGrown limit status line
    → PassedLimit IsGrown limit other text → (status ≡ other) × (line ≡ text)
one_passing IsGrown limit _ _ _ _ (set_limit carried many) (set_limit others more) = (refl, refl)

pub one_set_outcome : (IsMinimal IsGrown : List Bool → Type 0) (word : List ℕ) (ids : ℕ → List ℕ) (limit status other : ℕ) (text line : List ℕ) → Apart IsGrown limit
    → SetOutcome IsMinimal IsGrown word ids limit status text → SetOutcome IsMinimal IsGrown word ids limit other line → (status ≡ other) × (text ≡ line)
one_set_outcome IsMinimal IsGrown word ids limit _ _ _ _ apart (all_sets one few is) (all_sets another also what) =
    (refl, ap (λ (list : List (List Bool)). sets_text word ids list) (one_list_of_sets IsMinimal one another is what))
one_set_outcome IsMinimal IsGrown word ids limit _ _ _ _ apart (all_sets one few is) (passes_limit status line passed) =
    absurd (few_or_passed IsGrown limit status line apart few passed)
one_set_outcome IsMinimal IsGrown word ids limit _ _ _ _ apart (passes_limit status line passed) (all_sets one few is) =
    absurd (few_or_passed IsGrown limit status line apart few passed)
one_set_outcome IsMinimal IsGrown word ids limit _ _ _ _ apart (passes_limit status line passed) (passes_limit other text also) =
    one_passing IsGrown limit status other line text passed also
