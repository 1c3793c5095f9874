use Rattle.std.proofs.Common.{length}
use Rattle.semiflow_elim.specs.Counts.{AreCounted}
use Rattle.semiflow_elim.proofs.counts.count_rows.Given as goal

abbrev pub invariant-loop-i : goal.invariant-loop-i
invariant-loop-i l = AreCounted l.carried l.i (length l.initial.counts) l.counts
