use Rattle.net_values.specs.declared.node_kind.NodeKind.{NodeKind}
use Rattle.page_flatten.proofs.FaultLaws.{err_then, endless_only}
use Rattle.page_flatten.proofs.chains.settle_reference_of.Goals as goal

pub returns-in-RefPlace-clause-fault : goal.returns-in-RefPlace-clause-fault
returns-in-RefPlace-clause-fault c =
    rw (c.in-RefPlace.is) (err_then _ _ _ (endless_only c.args.numbers.now c.args.links.now NodeKind.Place c.in-RefPlace.node) c.settle_reference.ensures.fault)

pub returns-in-RefTransition-clause-fault : goal.returns-in-RefTransition-clause-fault
returns-in-RefTransition-clause-fault c =
    rw (c.in-RefTransition.is) (err_then _ _ _ (endless_only c.args.numbers.now c.args.links.now NodeKind.Transition c.in-RefTransition.node) c.settle_reference-in-RefTransition.ensures.fault)
