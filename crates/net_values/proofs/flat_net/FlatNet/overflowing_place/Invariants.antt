use Rattle.std.proofs.Common.{ℕ, ◌+◌, ◌-◌, ◌<◌, ◌^◌, get_or, slice_index}
use Rattle.net_values.specs.declared.column.WeightedPlace.{WeightedPlace}
use Rattle.net_values.specs.FlatNets.{net_of}
use Rattle.net_values.proofs.flat_net.FlatNet.overflowing_place.Given as goal

abbrev pub invariant-loop-entry : goal.invariant-loop-entry
invariant-loop-entry l =
    (i : ℕ) (e : WeightedPlace) → i < l.entry-index → slice_index l.marking (get_or l.outputs i e).place - (net_of l.self).pre (get_or l.outputs i e).place l.t + (get_or l.outputs i e).weight < 2 ^ 127
