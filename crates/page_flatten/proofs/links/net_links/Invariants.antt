use Rattle.page_flatten.proofs.LinkLaws.{AreLinksUpTo}
use Rattle.page_flatten.proofs.links.net_links.Given as goal

abbrev pub invariant-loop-item : goal.invariant-loop-item
invariant-loop-item l = AreLinksUpTo l.numbers l.net l.item-index l.next.place l.next.transition l.links.items
