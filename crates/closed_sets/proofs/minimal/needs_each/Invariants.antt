use Rattle.std.proofs.Common.{◌≡◌, ◌-◌, ℕ, ◌<◌, IsTrue, length}
use Rattle.net_values.specs.FlatNets.{net_of}
use Rattle.net_values.specs.PlaceSets.{has}
use Rattle.closed_sets.specs.ClosedSets.{HasSiphonWithout}
use Rattle.closed_sets.proofs.minimal.needs_each.Given as goal

abbrev pub invariant-loop-from : goal.invariant-loop-from
invariant-loop-from l =
    (length l.scratch ≡ length l.fn.scratch) × ((q : ℕ) → q < l.from → IsTrue (has l.set q) → HasSiphonWithout (net_of l.net) (has l.set) q → ⊥)

abbrev pub decreases-loop-from : goal.decreases-loop-from
decreases-loop-from l = length l.set - l.from
