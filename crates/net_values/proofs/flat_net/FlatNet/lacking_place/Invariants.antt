use Rattle.std.proofs.Common.{ℕ, ◌<◌, ◌≤◌, get_or, slice_index}
use Rattle.net_values.specs.declared.column.WeightedPlace.{WeightedPlace}
use Rattle.net_values.proofs.flat_net.FlatNet.lacking_place.Given as goal

abbrev pub invariant-loop-entry : goal.invariant-loop-entry
invariant-loop-entry l =
    (i : ℕ) (e : WeightedPlace) → i < l.entry-index → (get_or l.inputs i e).weight ≤ slice_index l.counts (get_or l.inputs i e).place
