use Rattle.semiflow_elim.proofs.LoneEntries.{only_first, none_past}
use Rattle.semiflow_elim.proofs.adjacent.has_one.Goals as goal

pub returns-then-first-size : goal.returns-then-first-size
returns-then-first-size c = λ yes.
    let set = c.support-support.result.now in
    only_first c.args.row.now set c.in-Some.first c.support-support.ensures c.in-Some.ensures (λ q past. none_past set c.size-size.result c.in-Some.first q c.size-size.ensures.value c.if-first-size.true past)

pub returns-in-None : goal.returns-in-None
returns-in-None c = λ yes. only_first c.args.row.now c.support-support.result.now c.in-Some.first c.support-support.ensures c.in-Some.ensures c.in-None.ensures
