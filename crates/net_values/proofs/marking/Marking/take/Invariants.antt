use Rattle.std.proofs.Common.{◌≡◌, length, take}
use Rattle.net_values.specs.Columns.{LeftOf}
use Rattle.net_values.proofs.marking.Marking.take.Given as goal

abbrev pub invariant-loop-entry : goal.invariant-loop-entry
invariant-loop-entry l =
    (length l.self-inside.counts.items ≡ length l.fn.self) × LeftOf l.fn.self (take l.entry-index l.entries) l.self-inside.counts.items
