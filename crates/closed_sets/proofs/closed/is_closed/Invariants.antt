use Rattle.std.proofs.Common.{◌-◌, ℕ, ◌<◌, IsTrue, length}
use Rattle.net_values.specs.FlatNets.{net_of}
use Rattle.net_values.specs.PlaceSets.{has}
use Rattle.closed_sets.specs.ClosedSets.{IsFed}
use Rattle.closed_sets.specs.Kinds.{seen_as}
use Rattle.closed_sets.proofs.closed.is_closed.Given as goal

abbrev pub invariant-loop-from : goal.invariant-loop-from
invariant-loop-from l = (q : ℕ) → q < l.from → IsTrue (has l.set q) → IsFed (seen_as l.kind (net_of l.net)) (has l.set) q

abbrev pub decreases-loop-from : goal.decreases-loop-from
decreases-loop-from l = length l.set - l.from
