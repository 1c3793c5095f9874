use Rattle.page_flatten.specs.Tables.{EndsAt, HaveSameEnds}
use Rattle.page_flatten.proofs.ChainLaws.{open_links}
use Rattle.page_flatten.proofs.chains.settle.Given as goal

abbrev pub invariant-loop-next : goal.invariant-loop-next
invariant-loop-next l = record {
  same : HaveSameEnds l.fn.links l.links;
  ends : EndsAt l.links l.at l.end;
}

abbrev pub decreases-loop-next : goal.decreases-loop-next
decreases-loop-next l = open_links l.links
