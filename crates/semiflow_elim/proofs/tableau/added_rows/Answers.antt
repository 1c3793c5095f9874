use Rattle.std.proofs.Common.{◌≡◌, sym, ap, ◌∙◌, subst, ℕ, ◌<◌, ◌≤◌, Bool, true, List, length, set, inl, inr, arith}
use Rattle.std.proofs.lemmas.Result.{err_from_is_err_and}
use Rattle.incidence.specs.Matrix.{Matrix}
use Rattle.incidence.specs.Tables.{matrix_of}
use Rattle.semiflow_elim.specs.Adjacent.{AreJoined}
use Rattle.semiflow_elim.specs.Bases.{IsBasis, in_set}
use Rattle.semiflow_elim.specs.Candidates.{IsStep, AreSums, AreRead, all_offers}
use Rattle.semiflow_elim.specs.Carried.{CarryTheirs}
use Rattle.semiflow_elim.specs.Elimination.{AreNarrowOutside, IsChosen}
use Rattle.semiflow_elim.specs.Merged.{AreExact}
use Rattle.semiflow_elim.specs.Numbers.{AreNumbers, gains_at, loses_at}
use Rattle.semiflow_elim.specs.declared.carried.ColumnSums.{ColumnSums}
use Rattle.semiflow_elim.specs.declared.signs.RowSums.{RowSums}
use Rattle.semiflow_elim.proofs.Carrying.{carried_listed}
use Rattle.semiflow_elim.proofs.Jointly.{carried_exact}
use Rattle.semiflow_elim.proofs.TakenSets.{set_extends}
use Rattle.semiflow_elim.proofs.Steps.{total_is, sums_step, read_sums}
use Rattle.semiflow_elim.proofs.tableau.added_rows.Goals as goal

own_sums : (m : Matrix) (K : ℕ → Type 0) (c : ℕ) (rows : List (List ℕ)) (carried : List (List ColumnSums)) (sums : List RowSums) → CarryTheirs m K rows carried → AreNarrowOutside m K rows → IsChosen m K rows c → AreRead c rows carried sums (length rows) → AreSums m c rows sums (length rows)
own_sums m K c rows carried sums theirs narrow chosen = read_sums m K c rows carried sums theirs chosen.within chosen.outside (narrow c chosen.within chosen.outside)

step_of : (m : Matrix) (taken : List Bool) (c : ℕ) (rows slice : List (List ℕ)) (carried : List (List ColumnSums)) (sums read : List RowSums) → slice ≡ rows → read ≡ sums → IsBasis m (in_set taken) rows → CarryTheirs m (in_set taken) rows carried → AreNarrowOutside m (in_set taken) rows → IsChosen m (in_set taken) rows c → AreRead c rows carried sums (length rows) → IsStep m c slice read
step_of m taken c rows slice carried sums read slice_is read_is basis theirs narrow chosen are =
    subst (IsStep m c slice) (sym read_is) (subst (λ (l : List (List ℕ)). IsStep m c l sums) (sym slice_is)
    (sums_step m c rows sums (own_sums m (in_set taken) c rows carried sums theirs narrow chosen are) chosen.within taken basis))

exact_read : (m : Matrix) (K : ℕ → Type 0) (rows slice : List (List ℕ)) (carried read : List (List ColumnSums)) → slice ≡ rows → read ≡ carried → AreExact m K rows carried → AreExact m K slice read
exact_read m K rows slice carried read slice_is read_is h = subst (AreExact m K slice) (sym read_is) (subst (λ (l : List (List ℕ)). AreExact m K l carried) (sym slice_is) h)

all_read : (rows slice : List (List ℕ)) (sums read : List RowSums) (joined : List (List ℕ)) → slice ≡ rows → read ≡ sums → length joined ≤ all_offers read (length slice) → length joined ≤ all_offers sums (length rows)
all_read rows slice sums read joined slice_is read_is few =
    subst (λ (s : List RowSums). length joined ≤ all_offers s (length rows)) read_is (subst (λ (l : List (List ℕ)). length joined ≤ all_offers read (length l)) slice_is few)

pub returns-in_err-choice-clause-fails : goal.returns-in_err-choice-clause-fails
returns-in_err-choice-clause-fails c =
    let p = err_from_is_err_and c.from_residual.result c.from_residual.ensures.1 in
    rw (p.1, p.2) (inr (c.in_err-choice.ensures.fails c.args.budget))

pub returns-then-choice-from-clause-fails : goal.returns-then-choice-from-clause-fails
returns-then-choice-from-clause-fails c =
    inr (c.in_ok-choice.ensures.narrow, c.in_ok-choice.ensures.chosen, c.in_ok-choice.ensures.count, omega arith)

pub row_signs-requires-clause-listed : goal.row_signs-requires-clause-listed
row_signs-requires-clause-listed c =
    let m = matrix_of c.args.matrix.now in
    (m.columns, carried_listed m (in_set c.args.taken.now) c.args.rows.now.vectors.items c.args.rows.now.sums.items c.requires.carried)

pub join_all-requires-clause-step : goal.join_all-requires-clause-step
join_all-requires-clause-step c =
    step_of (matrix_of c.args.matrix.now) c.args.taken.now c.in_ok-choice.choice.column c.args.rows.now.vectors.items c.as_slice.result.now c.args.rows.now.sums.items c.in-Ok.signs.sums.items c.as_slice-3.result.now c.as_slice.ensures.value c.as_slice-3.ensures.value c.requires.basis c.requires.carried c.in_ok-choice.ensures.narrow c.in_ok-choice.ensures.chosen c.in-Ok.ensures.sums

pub join_all-requires-clause-exact : goal.join_all-requires-clause-exact
join_all-requires-clause-exact c =
    let m = matrix_of c.args.matrix.now in
    let taken = c.args.taken.now in
    let column = c.in_ok-choice.choice.column in
    let under : column < length taken = let within = c.in_ok-choice.ensures.chosen.within in let size = c.requires.columns in omega arith in
    let after : c.insert.new.self ≡ set taken column true = c.insert.ensures ∙ ap (λ (t : List Bool). set t column true) c.in-Ok-copy.ensures in
    exact_read m (in_set c.insert.new.self) c.args.rows.now.vectors.items c.as_slice.result.now c.args.rows.now.sums.items c.as_slice-2.result.now c.as_slice.ensures.value c.as_slice-2.ensures.value
    (subst (λ (t : List Bool). AreExact m (in_set t) c.args.rows.now.vectors.items c.args.rows.now.sums.items) (sym after)
    (carried_exact m (in_set taken) (in_set (set taken column true)) c.args.rows.now.vectors.items c.args.rows.now.sums.items (set_extends taken column under).old c.requires.carried c.in_ok-choice.ensures.narrow))

pub returns-in-Ok-join_all-clause-added : goal.returns-in-Ok-join_all-clause-added
returns-in-Ok-join_all-clause-added c =
    let m = matrix_of c.args.matrix.now in
    let rows = c.args.rows.now.vectors.items in
    let column = c.in_ok-choice.choice.column in
    let joined = c.in-Ok-join_all.joined.vectors.items in
    let slice = c.as_slice.ensures.value in
    record {
      sums_are = own_sums m (in_set c.args.taken.now) column rows c.args.rows.now.sums.items c.in-Ok.signs.sums.items c.requires.carried c.in_ok-choice.ensures.narrow c.in_ok-choice.ensures.chosen c.in-Ok.ensures.sums;
      joined_are = subst (λ (l : List (List ℕ)). AreJoined m column l joined (length l) 0) slice c.in-Ok-join_all.ensures.joined;
      count = all_read rows c.as_slice.result.now c.in-Ok.signs.sums.items c.as_slice-3.result.now joined slice c.as_slice-3.ensures.value c.in-Ok-join_all.ensures.count;
    }

pub returns-in-Ok-join_all-clause-budget : goal.returns-in-Ok-join_all-clause-budget
returns-in-Ok-join_all-clause-budget c =
    let m = matrix_of c.args.matrix.now in
    let count = c.in_ok-choice.ensures.count in
    let rows = c.args.rows.now.vectors.items in
    let own = own_sums m (in_set c.args.taken.now) c.in_ok-choice.choice.column rows c.args.rows.now.sums.items c.in-Ok.signs.sums.items c.requires.carried c.in_ok-choice.ensures.narrow c.in_ok-choice.ensures.chosen c.in-Ok.ensures.sums in
    let total = total_is m c.in_ok-choice.choice.column rows c.in-Ok.signs.sums.items own in
    omega arith

pub returns-in-Ok-join_all-clause-passes : goal.returns-in-Ok-join_all-clause-passes
returns-in-Ok-join_all-clause-passes c =
    let m = matrix_of c.args.matrix.now in
    let count = c.in_ok-choice.ensures.count in
    let joined : AreJoined m c.in_ok-choice.choice.column c.args.rows.now.vectors.items c.in-Ok-join_all.joined.vectors.items (length c.args.rows.now.vectors.items) 0 =
    subst (λ (l : List (List ℕ)). AreJoined m c.in_ok-choice.choice.column l c.in-Ok-join_all.joined.vectors.items (length l) 0) c.as_slice.ensures.value c.in-Ok-join_all.ensures.joined
    in
    record {
      sums = c.in_ok-choice.ensures.narrow;
      chosen = c.in_ok-choice.ensures.chosen;
      budget_met = omega arith;
      pairs = λ i k first second pair. joined.narrow i k (inl first) second pair;
    }

-- the numbers of a sign, as they are lent
numbers_lent : (sign : List RowSums → ℕ → Bool) (sums read : List RowSums) (rows slice : List (List ℕ)) (numbers lent : List ℕ) → read ≡ sums → slice ≡ rows → lent ≡ numbers → AreNumbers (sign sums) (length rows) numbers → AreNumbers (sign read) (length slice) lent
numbers_lent sign sums read rows slice numbers lent read_is slice_is lent_is h =
    subst (AreNumbers (sign read) (length slice)) (sym lent_is)
    (subst (λ (l : List (List ℕ)). AreNumbers (sign read) (length l) numbers) (sym slice_is)
    (subst (λ (s : List RowSums). AreNumbers (sign s) (length rows) numbers) (sym read_is) h))

pub join_all-requires-clause-positive : goal.join_all-requires-clause-positive
join_all-requires-clause-positive c =
    numbers_lent gains_at c.in-Ok.signs.sums.items c.as_slice-3.result.now c.args.rows.now.vectors.items c.as_slice.result.now c.in-Ok.signs.positive.items c.as_slice-4.result.now c.as_slice-3.ensures.value c.as_slice.ensures.value c.as_slice-4.ensures.value c.in-Ok.ensures.positive

pub join_all-requires-clause-negative : goal.join_all-requires-clause-negative
join_all-requires-clause-negative c =
    numbers_lent loses_at c.in-Ok.signs.sums.items c.as_slice-3.result.now c.args.rows.now.vectors.items c.as_slice.result.now c.in-Ok.signs.negative.items c.as_slice-5.result.now c.as_slice-3.ensures.value c.as_slice.ensures.value c.as_slice-5.ensures.value c.in-Ok.ensures.negative
