use Rattle.std.proofs.Common.{◌≡◌, ◌+◌, ◌++◌, ◌∷◌, [], sym, ◌∙◌, subst, rules, arith}
use Rattle.incidence.specs.Tables.{matrix_of}
use Rattle.semiflow_elim.specs.Bases.{in_set}
use Rattle.semiflow_elim.specs.Carried.{AreCarried}
use Rattle.semiflow_elim.proofs.CarriedSums.{carried_gap, carried_inside, carried_none, carried_more}
use Rattle.semiflow_elim.proofs.carried.carried_sums.Goals.{then-not-contains+then-own-ne0+in_ok-push, then-not-contains+else-own-ne0+else-own-ne0-2, else-not-contains}
use Rattle.semiflow_elim.proofs.carried.carried_sums.Goals as goal

pub overflow_add-from : goal.overflow_add-from
overflow_add-from c = let under = c.in-Some.ensures.below_size in let few = c.requires.few in omega arith

pub columns-preserved : goal.columns-preserved
columns-preserved c =
    let m = matrix_of c.args.matrix.now in
    let K = in_set c.args.taken.now in
    let row = c.args.row.now in
    let n = c.in-Some.column in
    let sums = c.columns.sums in
    let first = c.in-Some.ensures in
    let gap = carried_gap m K row c.columns.from n sums first.not_before c.columns.invariant.carried (λ j past under out. let none = first.first j past under in (c.requires.gains j none, c.requires.losses j none)) in
    record {
      within = let under = first.below_size in omega arith;
      carried = elim c.if-not-contains.branch [
        | then-not-contains+then-own-ne0+in_ok-push w ↦
            let pushed : w.push.new.self ≡ sums ++ w.sums_at-own.result ∷ [] = search rules in
            subst (AreCarried m K row (n + 1)) (sym (w.sums-is ∙ pushed)) (carried_more m K row n sums w.sums_at-own.result w.sums_at-own.ensures.sums w.sums_at-own.ensures.column gap)
        | then-not-contains+else-own-ne0+else-own-ne0-2 w ↦
            subst (AreCarried m K row (n + 1)) (sym w.sums-is) (carried_none m K row n sums w.sums_at-own.result w.sums_at-own.ensures.sums w.if-own-ne0.false w.if-own-ne0-2.false gap)
        | else-not-contains w ↦
            subst (AreCarried m K row (n + 1)) (sym w.sums-is) (carried_inside m K row n sums (sym c.contains.ensures ∙ w.if-not-contains.false) gap)
      ];
    }

pub returns : goal.returns
returns c =
    let m = matrix_of c.args.matrix.now in
    let within = c.columns.invariant.within in
    let size = c.requires.touched in
    carried_gap m (in_set c.args.taken.now) c.args.row.now c.columns.from m.columns c.columns.sums (omega arith) c.columns.invariant.carried (λ j past under out. let none = c.in_default.ensures j past in (c.requires.gains j none, c.requires.losses j none))
