use Rattle.std.proofs.Common.{◌≡◌, ◌&&◌, ℕ, not, length}
use Rattle.net_values.specs.PlaceSets.{has}
use Rattle.closed_sets.proofs.OpenSets.{listed}
use Rattle.closed_sets.proofs.opens.close_takers.Given as goal

abbrev pub invariant-loop-t : goal.invariant-loop-t
invariant-loop-t l = (length l.opens ≡ length l.fn.opens) × ((t : ℕ) → has l.opens t ≡ (has l.fn.opens t && not (listed l.takers l.t-index t)))
