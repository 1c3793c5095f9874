use Rattle.std.proofs.Common.{◌≡◌, ◌-◌, ℕ, ◌<◌, IsTrue, length}
use Rattle.net_values.specs.FlatNets.{net_of}
use Rattle.net_values.specs.PlaceSets.{has}
use Rattle.closed_sets.specs.Needed.{AreNeeded, IsNeeded}
use Rattle.closed_sets.proofs.needed.are_needed.Given as goal

abbrev pub invariant-loop-from : goal.invariant-loop-from
invariant-loop-from l = record {
  needed : length l.needed ≡ length l.fn.needed;
  scratch : length l.scratch ≡ length l.fn.scratch;
  marked : AreNeeded (net_of l.net) l.set l.needed;
  before : (q : ℕ) → q < l.from → IsTrue (has l.set q) → IsNeeded (net_of l.net) l.set q;
}

abbrev pub decreases-loop-from : goal.decreases-loop-from
decreases-loop-from l = length l.set - l.from
