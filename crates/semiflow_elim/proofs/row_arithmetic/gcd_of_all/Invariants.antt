use Rattle.std.proofs.Common.{◌≡◌, ◌-◌, ◌≤◌, length}
use Rattle.semiflow_elim.specs.Arithmetic.{IsGcdOfAll}
use Rattle.semiflow_elim.proofs.row_arithmetic.gcd_of_all.Given as goal

abbrev pub invariant-entries : goal.invariant-entries
invariant-entries l = record {
  same : l.walk.entries ≡ l.row;
  within : l.walk.from ≤ length l.row;
  gcd : IsGcdOfAll l.row l.walk.from l.divisor;
}

abbrev pub decreases-entries : goal.decreases-entries
decreases-entries l = length l.row - l.walk.from
