use Rattle.std.specs.List.{flat_map}
use Rattle.page_flatten.specs.Elements.{arcs}
use Rattle.page_flatten.specs.Tables.{LinksJoin, IsFirstMisjoined}
use Rattle.page_flatten.proofs.FaultLaws.{err_goes, misjoined_moves}
use Rattle.page_flatten.proofs.Passes.{failed_here}
use Rattle.page_flatten.proofs.ArcLaws.{arcs_none, arcs_more, arcs_passed, values_here, still_within}
use Rattle.page_flatten.proofs.arcs.add_arcs.Goals as goal

pub loop-item-init : goal.loop-item-init
loop-item-init c = arcs_none c.args.numbers.now c.args.links.now c.args.items.now c.args.net.now c.requires.values

pub add_arc_of-requires-clause-within : goal.add_arc_of-requires-clause-within
add_arc_of-requires-clause-within c = still_within c.args.links.now c.args.net.now c.loop-item.net c.loop-item.invariant.adds.nodes c.requires.within

pub add_arc_of-requires-clause-values : goal.add_arc_of-requires-clause-values
add_arc_of-requires-clause-values c =
    (values_here c.args.numbers.now c.args.links.now c.args.items.now c.loop-item.item-index c.item-item.result c.loop-item-test.true c.item-item.is c.loop-item.invariant.values).0

pub returns-in_err-add_arc_of-clause-fault : goal.returns-in_err-add_arc_of-clause-fault
returns-in_err-add_arc_of-clause-fault c =
    let table = c.args.numbers.now in
    let links = c.args.links.now in
    let items = c.args.items.now in
    let item = c.item-item.result in
    err_goes (IsFirstMisjoined table links (flat_map arcs items)) c.from_residual.result _ c.from_residual.ensures.1
    (misjoined_moves table links (arcs item) (flat_map arcs items)
    (λ x. failed_here arcs (LinksJoin table links) items c.loop-item.item-index item x c.loop-item-test.true c.item-item.is (arcs_passed table links items c.loop-item.item-index _ _ c.loop-item.invariant)) _
    c.in_err-add_arc_of.ensures.fault)

pub loop-item-preserved : goal.loop-item-preserved
loop-item-preserved c =
    arcs_more c.args.numbers.now c.args.links.now c.args.items.now c.loop-item.item-index c.item-item.result _ _ _ c.loop-item-test.true c.item-item.is c.loop-item.invariant c.in_ok-add_arc_of.ensures.ok
