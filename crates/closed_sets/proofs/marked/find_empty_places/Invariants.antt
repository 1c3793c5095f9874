use Rattle.std.proofs.Common.{◌≡◌, ◌<◌, ◌==◌, ℕ, length}
use Rattle.net_values.specs.FlatNets.{net_of}
use Rattle.net_values.specs.PlaceSets.{has}
use Rattle.closed_sets.proofs.marked.find_empty_places.Given as goal

abbrev pub invariant-loop-p : goal.invariant-loop-p
invariant-loop-p l = (length l.empty ≡ length l.fn.empty) × ((q : ℕ) → q < l.p → has l.empty q ≡ ((net_of l.net).initial q == 0))
