use Rattle.page_flatten.proofs.NumberLaws.{AreAllNumbersUpTo}
use Rattle.page_flatten.proofs.numbered.check_ids.Given as goal

abbrev pub invariant-loop-k : goal.invariant-loop-k
invariant-loop-k l = AreAllNumbersUpTo l.nets l.k l.numbers
