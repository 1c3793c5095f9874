use Rattle.std.proofs.Common.{take}
use Rattle.closed_sets.specs.Falling.{Drops}
use Rattle.closed_sets.proofs.propagate.drop_all.Given as goal

abbrev pub invariant-loop-entry : goal.invariant-loop-entry
invariant-loop-entry l = Drops l.guard (take l.entry-index l.entries) l.fn.set l.set l.fn.fallen l.fallen
