use Rattle.page_flatten.proofs.NodeLaws.{HasNodesOf}
use Rattle.page_flatten.proofs.nodes.net_of_nodes.Given as goal

abbrev pub invariant-loop-item : goal.invariant-loop-item
invariant-loop-item l = HasNodesOf l.items l.item-index l.net
