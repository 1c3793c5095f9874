use Rattle.std.proofs.Common.{◌≡◌, length, take}
use Rattle.net_values.specs.Columns.{GivenTo}
use Rattle.net_values.proofs.marking.Marking.put.Given as goal

abbrev pub invariant-loop-entry : goal.invariant-loop-entry
invariant-loop-entry l =
    (length l.self-inside.counts.items ≡ length l.fn.self) × GivenTo l.fn.self (take l.entry-index l.entries) l.self-inside.counts.items
