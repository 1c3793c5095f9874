use Rattle.page_flatten.proofs.NumberLaws.{AreNumbersUpTo}
use Rattle.page_flatten.proofs.numbers.Numbers.add_net.Given as goal

abbrev pub invariant-loop-item : goal.invariant-loop-item
invariant-loop-item l = AreNumbersUpTo l.fn.self l.net l.item-index l.self
