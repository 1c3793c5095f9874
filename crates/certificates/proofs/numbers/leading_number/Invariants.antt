use Rattle.std.proofs.Common.{◌≡◌, ◌<◌, take, decimal}
use Rattle.certificates.proofs.numbers.leading_number.Given as goal

abbrev pub invariant-loop-k : goal.invariant-loop-k
invariant-loop-k l = (l.number < 10000) × (take l.k l.bytes ≡ decimal l.number)
