-- What the outcomes tell: a list that has exactly the things with a property has no other member.
use Rattle.std.proofs.Common.{◌≡◌, ℕ, List, refl, arith}
use Rattle.std.specs.Prelude.{Bool}
use Rattle.net_values.specs.PlaceSets.{has}
use Rattle.incidence.specs.Matrix.{Matrix}
use Rattle.incidence.specs.Semiflow.{all_columns}
use Rattle.semiflow_elim.specs.Bases.{IsMinimalRow}
use Rattle.closed_sets.specs.ClosedSets.{IsSiphon, IsTrap}
use Rattle.net_values.specs.FlatNets.{net_of}
use Rattle.struct_core.specs.Enumerations.{FailedStep, wide_sum, wide_row, row_budget, SemiflowOutcome, all_semiflows, step_fails, PassedLimit, set_limit, SetOutcome, all_sets, passes_limit}
use Rattle.struct_core.specs.Laws.{IsSemiflowRow, ListsVectors, ListsSets, PrintSemiflows, PrintClosedSets}
use Rattle.struct_core.proofs.Listing.{each_member}

-- a step that fails and a limit that is passed have other statuses than 0
pub step_goes_on : (m : Matrix) (columns : ℕ → List ℕ) (budget status : ℕ) (line : List ℕ) → FailedStep m columns budget status line → status ≡ 0 → ⊥
step_goes_on m columns budget _ _ (wide_sum j fails) zero_is = omega (arith, zero_is)
step_goes_on m columns budget _ _ (wide_row j fails) zero_is = omega (arith, zero_is)
step_goes_on m columns budget _ _ (row_budget j count fails) zero_is = omega (arith, zero_is)

pub limit_goes_on : (IsGrown : List Bool → Type 0) (limit status : ℕ) (line : List ℕ) → PassedLimit IsGrown limit status line → status ≡ 0 → ⊥
limit_goes_on IsGrown limit _ _ (set_limit carried many) zero_is = omega (arith, zero_is)

minimal_is_semiflow : (m : Matrix) (row : List ℕ) → IsMinimalRow m all_columns row → IsSemiflowRow m row
minimal_is_semiflow m row is = record { size = is.size; semiflow = is.minimal.semiflow }

vectors_printed : (m : Matrix) (ids columns : ℕ → List ℕ) (budget status : ℕ) (text : List ℕ) → SemiflowOutcome m ids columns budget status text
    → status ≡ 0 → ListsVectors ids (IsSemiflowRow m) text
vectors_printed m ids columns budget _ _ (all_semiflows list listed) zero_is =
    (list, each_member (IsSemiflowRow m) list (λ x here. minimal_is_semiflow m x ((listed.is.members x).0 here)), refl)
vectors_printed m ids columns budget _ _ (step_fails status line fails) zero_is = absurd (step_goes_on m columns budget status line fails zero_is)

sets_printed : (IsMinimal IsGrown Property : List Bool → Type 0) (word : List ℕ) (ids : ℕ → List ℕ) (limit status : ℕ) (text : List ℕ)
    → ((set : List Bool) → IsMinimal set → Property set) → SetOutcome IsMinimal IsGrown word ids limit status text → status ≡ 0
    → ListsSets word ids Property text
sets_printed IsMinimal IsGrown Property word ids limit _ _ has_it (all_sets list few is) zero_is =
    (list, each_member Property list (λ x here. has_it x ((is.members x).0 here)), refl)
sets_printed IsMinimal IsGrown Property word ids limit _ _ has_it (passes_limit status line passed) zero_is =
    absurd (limit_goes_on IsGrown limit status line passed zero_is)

pub prints_semiflows : PrintSemiflows
prints_semiflows budgets document net rest text =
    (λ outcome. vectors_printed _ _ _ _ 0 text outcome refl, λ outcome. vectors_printed _ _ _ _ 0 text outcome refl)

pub prints_closed_sets : PrintClosedSets
prints_closed_sets budgets document net rest text = (
  λ outcome. sets_printed _ _ (λ set. IsSiphon (net_of net) (has set)) _ _ _ 0 text (λ set minimal. minimal.minimal.siphon) outcome refl,
  λ outcome. sets_printed _ _ (λ set. IsTrap (net_of net) (has set)) _ _ _ 0 text (λ set minimal. minimal.minimal.trap) outcome refl,
)
