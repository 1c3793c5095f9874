use Rattle.std.proofs.Common.{◌+◌, ◌≤◌, length}
use Rattle.incidence.specs.Tables.{matrix_of}
use Rattle.semiflow_elim.specs.Adjacent.{AreJoined}
use Rattle.semiflow_elim.specs.Bases.{in_set}
use Rattle.semiflow_elim.specs.Carried.{CarryTheirs}
use Rattle.semiflow_elim.specs.Candidates.{sums_of, row_offers}
use Rattle.semiflow_elim.specs.Numbers.{next_of}
use Rattle.semiflow_elim.proofs.candidates.join_pairs.Given as goal

abbrev pub invariant-loop-q : goal.invariant-loop-q
invariant-loop-q l = record {
  joined : AreJoined (matrix_of l.step.matrix.now) l.step.column l.step.rows.now l.joined.vectors.items l.i (next_of l.step.negative.now (length l.step.rows.now) l.q);
  carried : CarryTheirs (matrix_of l.step.matrix.now) (in_set l.step.after.now) l.joined.vectors.items l.joined.sums.items;
  count : length l.joined.vectors.items ≤ length l.initial.joined.vectors.items + row_offers (sums_of l.step.sums.now l.i) l.step.sums.now (next_of l.step.negative.now (length l.step.rows.now) l.q);
}
