use Rattle.std.proofs.Common.{◌≤◌, All, length}
use Rattle.semiflow_elim.specs.Carried.{AreListed}
use Rattle.semiflow_elim.specs.Counts.{AreCounted}
use Rattle.semiflow_elim.specs.Kept.{AreSwept}
use Rattle.semiflow_elim.proofs.kept.keep_zeros.Given as goal

abbrev pub invariant-loop-left : goal.invariant-loop-left
invariant-loop-left l = record {
  few : l.left ≤ length l.sums;
  swept : AreSwept l.sums l.initial.rows.vectors.items l.initial.rows.sums.items l.rows.vectors.items l.rows.sums.items l.left;
  listed : All (AreListed (length l.initial.counts)) l.rows.sums.items;
  counted : AreCounted l.rows.sums.items (length l.rows.sums.items) (length l.initial.counts) l.counts;
}

abbrev pub decreases-loop-left : goal.decreases-loop-left
decreases-loop-left l = l.left
