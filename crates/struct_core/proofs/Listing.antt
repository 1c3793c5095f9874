-- What the lists of a net, and the faults of listing them, tell.
use Rattle.page_flatten.proofs.FaultLaws.{err_goes}
use Rattle.std.proofs.Common.{IsErrAnd, IfErr, Result, ◌≡◌, ℕ, List, sym, subst, arith, inl, inr, ◌∙◌}
use Rattle.std.specs.Prelude.{Bool, All, Contains, length}
use Rattle.std.specs.Cmp.Lexicographic.{slice_cmp}
use Rattle.std.specs.Ordering.{nat_cmp, bool_cmp}
use Rattle.std.proofs.lemmas.List.Elements.{All-contains_itself}
use Rattle.net_values.specs.Net.{Net, reversed}
use Rattle.net_values.specs.TheList.{IsTheList}
use Rattle.closed_sets.specs.MinimalSets.{IsMinimalSet, IsMinimalTrapSet}
use Rattle.incidence.specs.Matrix.{Matrix}
use Rattle.incidence.specs.Semiflow.{all_columns, IsSemiflow}
use Rattle.semiflow_elim.specs.declared.fault.ElimFault.{ElimFault}
use Rattle.semiflow_elim.specs.declared.fault.ElimFault.TheVariants as faults
use Rattle.semiflow_elim.specs.Bases.{IsMinimalRow}
use Rattle.semiflow_elim.specs.Generated.{IsGenerated}
use Rattle.semiflow_elim.specs.FirstFail.{EveryStepPasses, IsExplained}
use Rattle.siphon_branch.specs.declared.fault.SetFault.{SetFault}
use Rattle.siphon_branch.specs.declared.fault.SetFault.TheVariants as limits
use Rattle.siphon_branch.specs.Faults.{FailsToList}
use Rattle.siphon_branch.specs.Limits.{HasAtMostGrown, IsGrownSet, IsGrownTrapSet}
use Rattle.siphon_branch.proofs.TrapLists.{trap_lists}
use Rattle.report.specs.Texts.{semiflows_text, sets_text}
use Rattle.report.specs.declared.refusal.Refusal.{Refusal}
use Rattle.report.specs.declared.refusal.Refusal.TheVariants.{Excess}
use Rattle.report.specs.declared.refusal.Excess.TheVariants.{WideSum, WideRow, RowBudget, SetLimit}
use Rattle.report.specs.FaultLines.{wide_sum_line, wide_row_line, budget_line}
use Rattle.struct_core.specs.Answers.{FailsWith}
use Rattle.struct_core.specs.Enumerations.{AreListed, FailedStep, wide_sum, wide_row, row_budget, SemiflowOutcome, all_semiflows, step_fails, PassedLimit, set_limit, SetOutcome, all_sets, passes_limit}

pub each_member : {X : Type 0} (Property : X → Type 0) (list : List X) → ((x : X) → Contains list x → Property x) → All Property list
each_member Property list every = λ k d h. every _ (All-contains_itself list k d h)

-- a refusal that tells an outcome tells each outcome that this is one of
pub fails_so : (Tells Wider : ℕ → List ℕ → Type 0) (refusal : Refusal) → ((status : ℕ) (line : List ℕ) → Tells status line → Wider status line)
    → FailsWith Tells refusal → FailsWith Wider refusal
fails_so Tells Wider refusal widen (inl memory) = inl memory
fails_so Tells Wider refusal widen (inr told) = inr record { low = told.low; not_usage = told.not_usage; high = told.high; outcome = widen _ _ told.outcome }

-- ---- semiflows

pub listed_for : (m n : Matrix) (budget : ℕ) (list : List (List ℕ)) → m ≡ n → EveryStepPasses m budget
    → IsTheList (slice_cmp nat_cmp) (IsMinimalRow m all_columns) list → AreListed n budget list
listed_for m n budget list same passes is = subst (λ k. AreListed k budget list) same record { passes = passes; is = is }

pub generated_for : (m n : Matrix) (list : List (List ℕ)) → m ≡ n → ((y : ℕ → ℕ) → IsSemiflow m all_columns y → IsGenerated m list y)
    → (y : ℕ → ℕ) → IsSemiflow n all_columns y → IsGenerated n list y
generated_for m n list same generates =
    subst (λ k. (y : ℕ → ℕ) → IsSemiflow k all_columns y → IsGenerated k list y) same generates

pub rows_sized : (m : Matrix) (n : ℕ) (list : List (List ℕ)) → m.rows ≡ n
    → IsTheList (slice_cmp nat_cmp) (IsMinimalRow m all_columns) list → All (λ row. length row ≡ n) list
rows_sized m n list same is = each_member (λ row. length row ≡ n) list (λ row here. ((is.members row).0 here).size ∙ same)

pub semiflows_told : (m : Matrix) (ids columns : ℕ → List ℕ) (budget : ℕ) (list : List (List ℕ)) (text : List ℕ) → AreListed m budget list
    → text ≡ semiflows_text ids list → SemiflowOutcome m ids columns budget 0 text
semiflows_told m ids columns budget list text listed same =
    subst (λ (t : List ℕ). SemiflowOutcome m ids columns budget 0 t) (sym same) (all_semiflows list listed)

semiflows_fail : (m : Matrix) (ids columns : ℕ → List ℕ) (budget : ℕ) (refusal : Refusal) → FailsWith (FailedStep m columns budget) refusal
    → FailsWith (SemiflowOutcome m ids columns budget) refusal
semiflows_fail m ids columns budget refusal = fails_so _ _ refusal (λ status line is. step_fails status line is)

pub semiflows_refused : {T : Type 0} (m : Matrix) (ids columns : ℕ → List ℕ) (budget : ℕ) (result : Result T Refusal) (refusal : Refusal) → IsErrAnd result (λ x. x ≡ refusal)
    → FailsWith (FailedStep m columns budget) refusal → IfErr result (FailsWith (SemiflowOutcome m ids columns budget))
semiflows_refused m ids columns budget result refusal same fails =
    err_goes (FailsWith (SemiflowOutcome m ids columns budget)) result refusal same (semiflows_fail m ids columns budget refusal fails)

-- of an equal matrix
pub failure_as : (m n : Matrix) (columns : ℕ → List ℕ) (budget : ℕ) (refusal : Refusal) → m ≡ n → FailsWith (FailedStep m columns budget) refusal
    → FailsWith (FailedStep n columns budget) refusal
failure_as m n columns budget refusal same is = subst (λ k. FailsWith (FailedStep k columns budget) refusal) same is

pub wide_sum_told : (m : Matrix) (columns : ℕ → List ℕ) (budget j : ℕ) (id : List ℕ) (fault : ElimFault) → fault ≡ faults.WideSum j
    → IsExplained m budget fault → id ≡ columns j → FailsWith (FailedStep m columns budget) (Excess (WideSum id))
wide_sum_told m columns budget j id fault is fails same =
    inr record {
      low = omega arith;
      not_usage = λ is. omega (arith, is);
      high = omega arith;
      outcome = subst (λ (t : List ℕ). FailedStep m columns budget 4 (wide_sum_line t)) (sym same)
          (wide_sum j (subst (IsExplained m budget) is fails));
    }

pub wide_row_told : (m : Matrix) (columns : ℕ → List ℕ) (budget j : ℕ) (id : List ℕ) (fault : ElimFault) → fault ≡ faults.WideRow j
    → IsExplained m budget fault → id ≡ columns j → FailsWith (FailedStep m columns budget) (Excess (WideRow id))
wide_row_told m columns budget j id fault is fails same =
    inr record {
      low = omega arith;
      not_usage = λ is. omega (arith, is);
      high = omega arith;
      outcome = subst (λ (t : List ℕ). FailedStep m columns budget 4 (wide_row_line t)) (sym same)
          (wide_row j (subst (IsExplained m budget) is fails));
    }

pub budget_told : (m : Matrix) (columns : ℕ → List ℕ) (budget j count : ℕ) (id : List ℕ) (fault : ElimFault) → fault ≡ faults.RowBudget j count
    → IsExplained m budget fault → id ≡ columns j → FailsWith (FailedStep m columns budget) (Excess (RowBudget budget id count))
budget_told m columns budget j count id fault is fails same =
    inr record {
      low = omega arith;
      not_usage = λ is. omega (arith, is);
      high = omega arith;
      outcome = subst (λ (t : List ℕ). FailedStep m columns budget 5 (budget_line budget t count)) (sym same)
          (row_budget j count (subst (IsExplained m budget) is fails));
    }

-- ---- siphons and traps

pub sets_sized : (net : Net) (list : List (List Bool)) → IsTheList (slice_cmp bool_cmp) (IsMinimalSet net) list
    → All (λ set. length set ≡ net.places) list
sets_sized net list is = each_member (λ set. length set ≡ net.places) list (λ set here. ((is.members set).0 here).size)

pub limit_told : (net : Net) (limit : ℕ) (carried : List (List Bool)) (fault : SetFault) → fault ≡ limits.SetLimit carried
    → FailsToList net limit fault → FailsWith (PassedLimit (IsGrownSet net) limit) (Excess (SetLimit limit))
limit_told net limit carried fault is fails =
    inr record { low = omega arith; not_usage = λ is. omega (arith, is); high = omega arith; outcome = set_limit carried (subst (FailsToList net limit) is fails) }

pub siphons_told : (net : Net) (word : List ℕ) (ids : ℕ → List ℕ) (limit : ℕ) (list : List (List Bool)) (text : List ℕ)
    → HasAtMostGrown net limit → IsTheList (slice_cmp bool_cmp) (IsMinimalSet net) list → text ≡ sets_text word ids list
    → SetOutcome (IsMinimalSet net) (IsGrownSet net) word ids limit 0 text
siphons_told net word ids limit list text few is same =
    subst (λ (t : List ℕ). SetOutcome (IsMinimalSet net) (IsGrownSet net) word ids limit 0 t) (sym same) (all_sets list few is)

siphons_fail : (net : Net) (word : List ℕ) (ids : ℕ → List ℕ) (limit : ℕ) (refusal : Refusal) → FailsWith (PassedLimit (IsGrownSet net) limit) refusal
    → FailsWith (SetOutcome (IsMinimalSet net) (IsGrownSet net) word ids limit) refusal
siphons_fail net word ids limit refusal = fails_so _ _ refusal (λ status line is. passes_limit status line is)

pub siphons_refused : {T : Type 0} (net : Net) (word : List ℕ) (ids : ℕ → List ℕ) (limit : ℕ) (result : Result T Refusal) (refusal : Refusal) → IsErrAnd result (λ x. x ≡ refusal)
    → FailsWith (PassedLimit (IsGrownSet net) limit) refusal → IfErr result (FailsWith (SetOutcome (IsMinimalSet net) (IsGrownSet net) word ids limit))
siphons_refused net word ids limit result refusal same fails =
    err_goes (FailsWith (SetOutcome (IsMinimalSet net) (IsGrownSet net) word ids limit)) result refusal same (siphons_fail net word ids limit refusal fails)

-- the siphons of the net with every arc turned round are the traps
pub traps_told : (net turned : Net) (word : List ℕ) (ids : ℕ → List ℕ) (limit : ℕ) (list : List (List Bool)) (text : List ℕ) → turned ≡ reversed net
    → HasAtMostGrown turned limit → IsTheList (slice_cmp bool_cmp) (IsMinimalSet turned) list → text ≡ sets_text word ids list
    → SetOutcome (IsMinimalTrapSet net) (IsGrownTrapSet net) word ids limit 0 text
traps_told net turned word ids limit list text one few is same =
    subst (λ (t : List ℕ). SetOutcome (IsMinimalTrapSet net) (IsGrownTrapSet net) word ids limit 0 t) (sym same)
    (all_sets list ((trap_lists net limit list).few.1 (subst (λ n. HasAtMostGrown n limit) one few))
    ((trap_lists net limit list).minimal.1 (subst (λ n. IsTheList (slice_cmp bool_cmp) (IsMinimalSet n) list) one is)))

traps_passed : (net : Net) (limit status : ℕ) (line : List ℕ) → PassedLimit (IsGrownSet (reversed net)) limit status line
    → PassedLimit (IsGrownTrapSet net) limit status line
traps_passed net limit _ _ (set_limit carried many) = set_limit carried ((trap_lists net limit carried).many.1 many)

traps_fail : (net turned : Net) (word : List ℕ) (ids : ℕ → List ℕ) (limit : ℕ) (refusal : Refusal) → turned ≡ reversed net
    → FailsWith (PassedLimit (IsGrownSet turned) limit) refusal → FailsWith (SetOutcome (IsMinimalTrapSet net) (IsGrownTrapSet net) word ids limit) refusal
traps_fail net turned word ids limit refusal one fails =
    fails_so _ _ refusal (λ status line is. passes_limit status line (traps_passed net limit status line is))
    (subst (λ n. FailsWith (PassedLimit (IsGrownSet n) limit) refusal) one fails)

pub traps_refused : {T : Type 0} (net turned : Net) (word : List ℕ) (ids : ℕ → List ℕ) (limit : ℕ) (result : Result T Refusal) (refusal : Refusal) → turned ≡ reversed net
    → IsErrAnd result (λ x. x ≡ refusal) → FailsWith (PassedLimit (IsGrownSet turned) limit) refusal
    → IfErr result (FailsWith (SetOutcome (IsMinimalTrapSet net) (IsGrownTrapSet net) word ids limit))
traps_refused net turned word ids limit result refusal one same fails =
    err_goes (FailsWith (SetOutcome (IsMinimalTrapSet net) (IsGrownTrapSet net) word ids limit)) result refusal same (traps_fail net turned word ids limit refusal one fails)
