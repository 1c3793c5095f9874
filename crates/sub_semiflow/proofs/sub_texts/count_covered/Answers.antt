-- A place more is covered, or isn't.
use Rattle.std.proofs.Common.{◌≡◌, ◌∙◌, ◌+◌, ap, sym, cond, arith}
use Rattle.sub_semiflow.proofs.Counting.{counted_more, few_covered}
use Rattle.sub_semiflow.proofs.sub_texts.count_covered.Goals as goal
use Rattle.sub_semiflow.proofs.sub_texts.count_covered.Goals.{then-covered, else-covered}

pub overflow_add-count : goal.overflow_add-count
overflow_add-count c =
    let few = few_covered c.args.rows.now c.loop-p.p in
    let fits = c.ranges.places in
    omega (arith, few, fits, c.loop-p.invariant, c.loop-p-test.true)

pub loop-p-preserved : goal.loop-p-preserved
loop-p-preserved c =
    elim c.if-covered.branch [
      | then-covered w ↦ counted_more c.args.rows.now c.loop-p.p c.loop-p.count c.if-covered.count c.covered.result c.loop-p.invariant c.covered.ensures
          (w.count-is ∙ ap (λ b. c.loop-p.count + cond b 1 0) (sym w.if-covered.true))
      | else-covered w ↦ counted_more c.args.rows.now c.loop-p.p c.loop-p.count c.if-covered.count c.covered.result c.loop-p.invariant c.covered.ensures
          (w.count-is ∙ (let same : c.loop-p.count ≡ c.loop-p.count + 0 = omega arith in same) ∙ ap (λ b. c.loop-p.count + cond b 1 0) (sym w.if-covered.false))
    ]
