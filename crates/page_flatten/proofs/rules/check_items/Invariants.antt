use Rattle.page_flatten.specs.Names.{looked, IsKept}
use Rattle.page_flatten.proofs.Passes.{Passed}
use Rattle.page_flatten.proofs.rules.check_items.Given as goal

abbrev pub invariant-loop-item : goal.invariant-loop-item
invariant-loop-item l = Passed (looked l.rule) (IsKept l.rule l.numbers) l.items l.item-index
