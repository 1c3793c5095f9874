use Rattle.std.proofs.Common.{◌≡◌, ◌&&◌, ◌||◌, ℕ, not, length}
use Rattle.net_values.specs.FlatNets.{net_of}
use Rattle.net_values.specs.PlaceSets.{has}
use Rattle.closed_sets.specs.ClosedSets.{has_input_in}
use Rattle.closed_sets.proofs.OpenSets.{listed}
use Rattle.closed_sets.proofs.opens.open_givers.Given as goal

abbrev pub invariant-loop-t : goal.invariant-loop-t
invariant-loop-t l =
    (length l.opens ≡ length l.fn.opens) × ((t : ℕ) → has l.opens t ≡ (has l.fn.opens t || (listed l.givers l.t-index t && not (has_input_in (net_of l.net) (has l.set) t))))
