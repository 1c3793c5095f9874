use Rattle.page_flatten.proofs.NodeLaws.{nodes_more, nodes_all, room_for}
use Rattle.page_flatten.proofs.nodes.net_of_nodes.Goals as goal

pub add_node-requires : goal.add_node-requires
add_node-requires c =
    room_for c.args.items.now c.loop-item.item-index c.item-item.result c.loop-item.net c.loop-item-test.true c.item-item.is c.loop-item.invariant c.requires.places c.requires.transitions

pub loop-item-preserved : goal.loop-item-preserved
loop-item-preserved c =
    nodes_more c.args.items.now c.loop-item.item-index c.item-item.result _ _ c.loop-item-test.true c.item-item.is c.loop-item.invariant c.in_ok-add_node.ensures

pub returns-clause-places : goal.returns-clause-places
returns-clause-places c = (nodes_all c.args.items.now c.loop-item.item-index _ c.loop-item-test.false c.loop-item.invariant).0

pub returns-clause-transitions : goal.returns-clause-transitions
returns-clause-transitions c = (nodes_all c.args.items.now c.loop-item.item-index _ c.loop-item-test.false c.loop-item.invariant).1
