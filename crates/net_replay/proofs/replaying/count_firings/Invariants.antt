use Rattle.std.proofs.Common.{take}
use Rattle.net_values.specs.FlatNets.{net_of}
use Rattle.net_replay.specs.Replays.{IsCountVector}
use Rattle.net_replay.proofs.replaying.count_firings.Given as goal

abbrev pub invariant-loop-t : goal.invariant-loop-t
invariant-loop-t l = IsCountVector (net_of l.net) (take l.t-index l.list) l.counts
