use Rattle.std.proofs.Common.{◌-◌, ◌≤◌, length}
use Rattle.incidence.specs.Tables.{matrix_of}
use Rattle.semiflow_elim.specs.Bases.{in_set}
use Rattle.semiflow_elim.specs.Carried.{AreCarried}
use Rattle.semiflow_elim.proofs.carried.carried_sums.Given as goal

abbrev pub invariant-columns : goal.invariant-columns
invariant-columns l = record {
  within : l.from ≤ length l.touched;
  carried : AreCarried (matrix_of l.matrix) (in_set l.taken) l.row l.from l.sums;
}

abbrev pub decreases-columns : goal.decreases-columns
decreases-columns l = length l.touched - l.from
