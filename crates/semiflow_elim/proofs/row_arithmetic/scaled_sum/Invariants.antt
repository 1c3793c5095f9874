use Rattle.std.proofs.Common.{◌≡◌, ◌-◌, ◌≤◌, length}
use Rattle.semiflow_elim.specs.Arithmetic.{IsSummed}
use Rattle.semiflow_elim.proofs.row_arithmetic.scaled_sum.Given as goal

abbrev pub invariant-positions : goal.invariant-positions
invariant-positions l = record {
  first : l.first.entries ≡ l.r;
  first_from : l.first.from ≡ l.from;
  second : l.second.entries ≡ l.s;
  second_from : l.second.from ≡ l.from;
  within : l.from ≤ length l.r;
  sum : IsSummed l.x l.r l.y l.s l.from l.sum;
}

abbrev pub decreases-positions : goal.decreases-positions
decreases-positions l = length l.r - l.from
