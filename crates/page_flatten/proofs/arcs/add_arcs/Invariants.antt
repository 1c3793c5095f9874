use Rattle.page_flatten.proofs.ArcLaws.{HasArcsUpTo}
use Rattle.page_flatten.proofs.arcs.add_arcs.Given as goal

abbrev pub invariant-loop-item : goal.invariant-loop-item
invariant-loop-item l = HasArcsUpTo l.numbers l.links l.items l.item-index l.fn.net l.net
