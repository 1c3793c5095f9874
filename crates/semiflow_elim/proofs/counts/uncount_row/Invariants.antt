use Rattle.std.proofs.Common.{take}
use Rattle.semiflow_elim.specs.Counts.{AreCountedIn}
use Rattle.semiflow_elim.proofs.counts.uncount_row.Given as goal

abbrev pub invariant-loop-own : goal.invariant-loop-own
invariant-loop-own l = AreCountedIn l.counts (take l.own-index l.sums) l.initial.counts
