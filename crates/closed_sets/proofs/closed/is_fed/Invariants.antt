use Rattle.std.proofs.Common.{ℕ, ◌<◌, IsTrue, slice_index}
use Rattle.net_values.specs.FlatNets.{net_of}
use Rattle.net_values.specs.PlaceSets.{has}
use Rattle.closed_sets.specs.ClosedSets.{has_input_in}
use Rattle.closed_sets.specs.Kinds.{seen_as}
use Rattle.closed_sets.proofs.closed.is_fed.Given as goal

abbrev pub invariant-loop-t : goal.invariant-loop-t
invariant-loop-t l = (k : ℕ) → k < l.t-index → IsTrue (has_input_in (seen_as l.kind (net_of l.net)) (has l.set) (slice_index l.givers k))
