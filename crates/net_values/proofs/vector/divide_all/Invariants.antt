-- the numbers before the index are divided, and the others are as they were
use Rattle.std.proofs.Common.{◌≡◌, ◌/◌, ◌++◌, map, take, drop}
use Rattle.net_values.proofs.vector.divide_all.Given as goal

abbrev pub invariant-loop-number : goal.invariant-loop-number
invariant-loop-number l = l.numbers ≡ map (λ number. number / l.divisor) (take l.number-index l.initial.numbers) ++ drop l.number-index l.initial.numbers
