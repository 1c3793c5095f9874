use Rattle.std.proofs.Common.{nat_lt}
use Rattle.semiflow_elim.specs.Candidates.{AreReadUpTo}
use Rattle.semiflow_elim.specs.Carried.{list_of, sums_in}
use Rattle.semiflow_elim.specs.Numbers.{AreNumbers}
use Rattle.semiflow_elim.proofs.signs.row_signs.Given as goal

abbrev pub invariant-loop-i : goal.invariant-loop-i
invariant-loop-i l = record {
  read : AreReadUpTo l.column l.rows.vectors.items l.rows.sums.items l.sums.items l.i;
  positives : AreNumbers (λ a. nat_lt (sums_in (list_of l.rows.sums.items a) l.column).loss (sums_in (list_of l.rows.sums.items a) l.column).gain) l.i l.positive.items;
  negatives : AreNumbers (λ a. nat_lt (sums_in (list_of l.rows.sums.items a) l.column).gain (sums_in (list_of l.rows.sums.items a) l.column).loss) l.i l.negative.items;
}
