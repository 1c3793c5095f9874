use Rattle.net_values.specs.FlatNets.{net_of}
use Rattle.net_replay.proofs.FiredSoFar.{FiredSoFar}
use Rattle.net_replay.proofs.replaying.fire_all.Given as goal

abbrev pub invariant-loop-index : goal.invariant-loop-index
invariant-loop-index l = FiredSoFar (net_of l.net) l.list l.index l.marking
