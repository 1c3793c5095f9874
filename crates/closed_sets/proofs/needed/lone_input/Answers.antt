use Rattle.std.proofs.Common.{arith}
use Rattle.net_values.specs.FlatNets.{net_of}
use Rattle.closed_sets.proofs.NeededPlaces.{lone_decided}
use Rattle.closed_sets.proofs.needed.lone_input.Goals as goal

pub returns : goal.returns
returns c =
    lone_decided (net_of c.args.net.now) c.args.set.now c.args.t c.inputs-inputs.result.now c.inputs-inputs.ensures.lists c.loop-entry.lone c.loop-entry.entry-index (omega arith) (omega arith) c.loop-entry.invariant
