use Rattle.std.proofs.Common.{◌≡◌, ◌<◌, ℕ, slice_index}
use Rattle.net_values.specs.FlatNets.{net_of}
use Rattle.net_replay.proofs.replaying.is_initial.Given as goal

abbrev pub invariant-loop-p : goal.invariant-loop-p
invariant-loop-p l = (q : ℕ) → q < l.p → slice_index l.marking q ≡ (net_of l.net).initial q
