use Rattle.page_flatten.proofs.FaultLaws.{err_then, misjoined_only}
use Rattle.page_flatten.proofs.arcs.add_arc_of.Goals as goal

pub returns-in-Arc-clause-fault : goal.returns-in-Arc-clause-fault
returns-in-Arc-clause-fault c =
    rw (c.in-Arc.is) (err_then _ _ _ (misjoined_only c.args.numbers.now c.args.links.now c.in-Arc.arc) c.add_arc.ensures.fault)
