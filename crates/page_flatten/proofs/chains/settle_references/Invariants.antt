use Rattle.page_flatten.specs.Elements.{references}
use Rattle.page_flatten.specs.Tables.{ItsLinksEnd, HaveSameEnds}
use Rattle.page_flatten.proofs.Passes.{Passed}
use Rattle.page_flatten.proofs.chains.settle_references.Given as goal

abbrev pub invariant-loop-item : goal.invariant-loop-item
invariant-loop-item l = record {
  passed : Passed references (ItsLinksEnd l.numbers l.fn.links) l.items l.item-index;
  same : HaveSameEnds l.fn.links l.links;
}
