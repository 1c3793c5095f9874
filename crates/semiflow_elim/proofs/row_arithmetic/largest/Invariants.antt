use Rattle.std.proofs.Common.{◌≡◌, ℕ, ◌-◌, ◌<◌, ◌≤◌, length, slice_index}
use Rattle.semiflow_elim.proofs.row_arithmetic.largest.Given as goal

abbrev pub invariant-entries : goal.invariant-entries
invariant-entries l = record {
  same : l.walk.entries ≡ l.row;
  within : l.walk.from ≤ length l.row;
  all : (i : ℕ) → i < l.walk.from → slice_index l.row i ≤ l.largest;
}

abbrev pub decreases-entries : goal.decreases-entries
decreases-entries l = length l.row - l.walk.from
