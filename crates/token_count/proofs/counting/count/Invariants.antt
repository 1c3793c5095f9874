use Rattle.std.proofs.Common.{◌≤◌, length}
use Rattle.token_count.proofs.counting.count.Given as goal

abbrev pub invariant-loop : goal.invariant-loop
invariant-loop l = (l.offset ≤ length l.bytes) × (l.tokens ≤ l.counter)
