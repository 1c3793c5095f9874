use Rattle.std.proofs.Common.{◌≤◌, length}
use Rattle.incidence.specs.Tables.{matrix_of}
use Rattle.semiflow_elim.specs.Adjacent.{AreJoined}
use Rattle.semiflow_elim.specs.Bases.{in_set}
use Rattle.semiflow_elim.specs.Carried.{CarryTheirs}
use Rattle.semiflow_elim.specs.Candidates.{all_offers}
use Rattle.semiflow_elim.specs.Numbers.{next_of}
use Rattle.semiflow_elim.proofs.candidates.join_all.Given as goal

abbrev pub invariant-loop-p : goal.invariant-loop-p
invariant-loop-p l = record {
  joined : AreJoined (matrix_of l.step.matrix.now) l.step.column l.step.rows.now l.joined.vectors.items (next_of l.step.positive.now (length l.step.rows.now) l.p) 0;
  carried : CarryTheirs (matrix_of l.step.matrix.now) (in_set l.step.after.now) l.joined.vectors.items l.joined.sums.items;
  count : length l.joined.vectors.items ≤ all_offers l.step.sums.now (next_of l.step.positive.now (length l.step.rows.now) l.p);
}
