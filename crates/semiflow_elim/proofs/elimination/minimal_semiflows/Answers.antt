use Rattle.std.proofs.Common.{◌≡◌, refl, sym, ap, ◌∙◌, subst, ℕ, suc, ◌+◌, ◌<◌, ◌≤◌, ◌⊎◌, Bool, true, false, List, length, replicate, set, inl, inr, arith}
use Rattle.std.proofs.lemmas.Result.{err_from_is_err_and}
use Rattle.incidence.specs.Matrix.{Matrix}
use Rattle.incidence.specs.Tables.{Tables, matrix_of}
use Rattle.semiflow_elim.specs.Bases.{AreMinimal, IsBasis, in_set}
use Rattle.semiflow_elim.specs.Elimination.{Passes, FailsBy}
use Rattle.semiflow_elim.specs.FirstFail.{Reaches, IsExplained}
use Rattle.semiflow_elim.specs.Tableaus.{size_of}
use Rattle.semiflow_elim.specs.declared.fault.ElimFault.{ElimFault}
use Rattle.semiflow_elim.specs.declared.fault.ElimFault.TheVariants.{NoMemory, WideSum, RowBudget, WideRow}
use Rattle.semiflow_elim.proofs.Listed.{sorted_list}
use Rattle.semiflow_elim.proofs.Generation.{sorted_generates}
use Rattle.semiflow_elim.proofs.TakenSets.{size_none, size_within, none_left}
use Rattle.semiflow_elim.proofs.elimination.minimal_semiflows.Goals as goal

-- a failing step after steps that pass is the first failure
explained : (m : Matrix) (budget steps : ℕ) (taken : List Bool) (rows : List (List ℕ)) (fault : ElimFault) → steps < m.columns → Reaches m budget steps taken → AreMinimal m (in_set taken) rows → (fault ≡ NoMemory) ⊎ FailsBy m budget (in_set taken) rows fault → IsExplained m budget fault
explained m budget steps taken rows NoMemory within before minimal fails = tt
explained m budget steps taken rows (WideSum j) within before minimal (inl none) = absurd (cc)
explained m budget steps taken rows (WideSum j) within before minimal (inr fails) = record { steps = steps; within = within; taken = taken; before = before; fails = (rows, minimal, fails) }
explained m budget steps taken rows (RowBudget c count) within before minimal (inl none) = absurd (cc)
explained m budget steps taken rows (RowBudget c count) within before minimal (inr fails) = record { steps = steps; within = within; taken = taken; before = before; fails = (rows, minimal, fails) }
explained m budget steps taken rows (WideRow c) within before minimal (inl none) = absurd (cc)
explained m budget steps taken rows (WideRow c) within before minimal (inr fails) = record { steps = steps; within = within; taken = taken; before = before; fails = (rows, minimal, fails) }

starts : (m : Matrix) (budget : ℕ) (taken : List Bool) → taken ≡ replicate m.columns false → Reaches m budget (size_of taken) taken
starts m budget taken none =
    let zero_size : size_of taken ≡ 0 = ap size_of none ∙ size_none m.columns in
    subst (λ (n : ℕ). Reaches m budget n taken) (sym zero_size) none

-- a step that passes leads on
goes_on : (m : Matrix) (budget : ℕ) (taken next : List Bool) (rows : List (List ℕ)) → AreMinimal m (in_set taken) rows → Reaches m budget (size_of taken) taken → size_of next ≡ size_of taken + 1 → ((c : ℕ) × (next ≡ set taken c true) × Passes m budget (in_set taken) rows c) → Reaches m budget (size_of next) next
goes_on m budget taken next rows minimal reached count step =
    let more : suc (size_of taken) ≡ size_of next = omega arith in
    subst (λ (n : ℕ). Reaches m budget n next) more (taken, step.0, reached, (rows, minimal, step.2), step.1)

-- what holds of the rows over the columns taken, of a matrix that is the given one
of_matrix : (P : Matrix → List (List ℕ) → Type 0) (own tables : Tables) (rows list : List (List ℕ)) → tables ≡ own → list ≡ rows → P (matrix_of tables) rows → P (matrix_of own) list
of_matrix P own tables rows list same moved holds = subst (P (matrix_of own)) (sym moved) (subst (λ (t : Tables). P (matrix_of t) rows) same holds)

all_taken : (m : Matrix) (taken : List Bool) → length taken ≡ m.columns → m.columns ≤ size_of taken → (j : ℕ) → j < m.columns → in_set taken j
all_taken m taken columns full j under = none_left taken (omega arith) j (omega arith)

pub loop-tableau-init : goal.loop-tableau-init
loop-tableau-init c = record {
  same = c.in-Ok.ensures.matrix;
  reached = starts (matrix_of c.args.matrix.now) c.args.rows c.in-Ok.tableau.taken c.in-Ok.ensures.none;
}

pub loop-tableau-preserved : goal.loop-tableau-preserved
loop-tableau-preserved c =
    let t = c.loop-tableau.tableau in
    let budget = c.args.rows in
    let same = c.loop-tableau.invariant.same in
    let Step : Tables → Type 0 = λ tables. (j : ℕ) × (c.step.new.self.taken ≡ set t.taken j true) × Passes (matrix_of tables) budget (in_set t.taken) t.rows j in
    record {
      same = c.in_ok-step.ensures.matrix ∙ same;
      reached = goes_on (matrix_of c.args.matrix.now) budget t.taken c.step.new.self.taken t.rows
          (of_matrix (λ m rows. AreMinimal m (in_set t.taken) rows) c.args.matrix.now t.tables t.rows t.rows same refl c.done.ensures.minimal)
          c.loop-tableau.invariant.reached c.in_ok-step.ensures.count
          (subst Step same c.in_ok-step.ensures.ok);
    }

pub returns-in_err-step-clause-fails : goal.returns-in_err-step-clause-fails
returns-in_err-step-clause-fails c =
    let t = c.loop-tableau.tableau in
    let budget = c.args.rows in
    let p = err_from_is_err_and c.from_residual.result c.from_residual.ensures.1 in
    let M : Tables → Type 0 = λ tables. AreMinimal (matrix_of tables) (in_set t.taken) t.rows in
    let F : Tables → Type 0 = λ tables. (c.in_err-step.field-0.0 ≡ NoMemory) ⊎ FailsBy (matrix_of tables) budget (in_set t.taken) t.rows c.in_err-step.field-0.0 in
    let same = c.loop-tableau.invariant.same in
    rw (p.1, p.2)
    (explained (matrix_of c.args.matrix.now) budget (size_of t.taken) t.taken t.rows c.in_err-step.field-0.0 (omega (arith, c.done.ensures.value, c.columns.ensures.value)) c.loop-tableau.invariant.reached
    (subst M same c.done.ensures.minimal) (subst F same c.in_err-step.ensures.fails))

pub returns-clause-list : goal.returns-clause-list
returns-clause-list c =
    let t = c.loop-tableau.tableau in
    let m = matrix_of c.args.matrix.now in
    let same = c.loop-tableau.invariant.same in
    let columns : length t.taken ≡ m.columns = subst (λ (k : Tables). length t.taken ≡ (matrix_of k).columns) same c.done.ensures.columns in
    let full : m.columns ≤ size_of t.taken = omega (arith, c.done.ensures.value, c.columns.ensures.value, c.loop-tableau-test.false) in
    sorted_list m (in_set t.taken) c.into_rows-list.result c.sort.new.self (all_taken m t.taken columns full)
    (of_matrix (λ m rows. AreMinimal m (in_set t.taken) rows) c.args.matrix.now t.tables t.rows c.into_rows-list.result same c.into_rows-list.ensures.rows c.into_rows-list.ensures.minimal)
    c.sort.ensures.same c.sort.ensures.strict

pub returns-clause-generates : goal.returns-clause-generates
returns-clause-generates c =
    let t = c.loop-tableau.tableau in
    let m = matrix_of c.args.matrix.now in
    let same = c.loop-tableau.invariant.same in
    let columns : length t.taken ≡ m.columns = subst (λ (k : Tables). length t.taken ≡ (matrix_of k).columns) same c.done.ensures.columns in
    let full : m.columns ≤ size_of t.taken = omega (arith, c.done.ensures.value, c.columns.ensures.value, c.loop-tableau-test.false) in
    sorted_generates m (in_set t.taken) c.into_rows-list.result c.sort.new.self (all_taken m t.taken columns full)
    (of_matrix (λ m rows. IsBasis m (in_set t.taken) rows) c.args.matrix.now t.tables t.rows c.into_rows-list.result same c.into_rows-list.ensures.rows c.into_rows-list.ensures.basis)
    c.sort.ensures.same

pub returns-clause-passes : goal.returns-clause-passes
returns-clause-passes c =
    let t = c.loop-tableau.tableau in
    let m = matrix_of c.args.matrix.now in
    let columns : length t.taken ≡ m.columns = subst (λ (k : Tables). length t.taken ≡ (matrix_of k).columns) c.loop-tableau.invariant.same c.done.ensures.columns in
    let most = size_within t.taken in
    let all : size_of t.taken ≡ m.columns = omega (arith, c.done.ensures.value, c.columns.ensures.value, c.loop-tableau-test.false) in
    (t.taken, subst (λ (n : ℕ). Reaches m c.args.rows n t.taken) all c.loop-tableau.invariant.reached)
