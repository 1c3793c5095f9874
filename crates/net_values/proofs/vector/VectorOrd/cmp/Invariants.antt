-- both walks have come to one position, and before it the vectors are equal
use Rattle.std.proofs.Common.{◌≡◌, ◌-◌, ◌<◌, ◌≤◌, ℕ, length, slice_index}
use Rattle.net_values.proofs.vector.VectorOrd.cmp.Given as goal

abbrev pub invariant-entries : goal.invariant-entries
invariant-entries l = record {
  first : l.walk.entries ≡ l.self;
  second : l.others.entries ≡ l.other;
  place : l.others.from ≡ l.walk.from;
  within : l.walk.from ≤ length l.self;
  same : (q : ℕ) → q < l.walk.from → slice_index l.self q ≡ slice_index l.other q;
}

abbrev pub decreases-entries : goal.decreases-entries
decreases-entries l = length l.self - l.walk.from
