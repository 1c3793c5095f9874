use Rattle.std.proofs.Common.{◌≡◌, ◌∙◌, ℕ, List, Bool, false, sym, ap, subst, length, slice_index, arith}
use Rattle.std.proofs.lemmas.List.{length-replicate}
use Rattle.incidence.specs.Matrix.{Matrix, gain_sum, loss_sum}
use Rattle.incidence.specs.Tables.{matrix_of}
use Rattle.semiflow_elim.proofs.Units.{unit_gains, unit_losses}
use Rattle.semiflow_elim.proofs.carried.unit_sums.Goals as goal

pub carried_sums-requires-clause-few : goal.carried_sums-requires-clause-few
carried_sums-requires-clause-few c =
    let size = c.mark_rows.ensures.size ∙ ap length c.in_ok-touched.ensures ∙ length-replicate {A = Bool} c.rows.result false in
    let value = c.rows.ensures.value in
    let limit = c.rows.ensures.limits.rows in
    omega arith

pub carried_sums-requires-clause-gains : goal.carried_sums-requires-clause-gains
carried_sums-requires-clause-gains c = λ j out.
    let m = matrix_of c.args.matrix.now in
    let none : m.gain c.args.position j ≡ 0 = subst (λ (t : Matrix). t.gain j c.args.position ≡ 0) c.requires.turned (c.mark_rows.ensures.gains j out) in
    subst (λ (l : List ℕ). gain_sum m j (slice_index l) ≡ 0) (sym c.requires.unit) (unit_gains m c.args.position j none)

pub carried_sums-requires-clause-losses : goal.carried_sums-requires-clause-losses
carried_sums-requires-clause-losses c = λ j out.
    let m = matrix_of c.args.matrix.now in
    let none : m.loss c.args.position j ≡ 0 = subst (λ (t : Matrix). t.loss j c.args.position ≡ 0) c.requires.turned (c.mark_rows.ensures.losses j out) in
    subst (λ (l : List ℕ). loss_sum m j (slice_index l) ≡ 0) (sym c.requires.unit) (unit_losses m c.args.position j none)
