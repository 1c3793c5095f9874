use Rattle.std.proofs.Common.{◌<◌, ◌≤◌, IsTrue, get_or, length, rules, arith}
use Rattle.net_values.specs.FlatNets.{net_of}
use Rattle.net_values.specs.PlaceSets.{has}
use Rattle.net_values.proofs.TokenCounts.{nowhere}
use Rattle.siphon_branch.proofs.NextPlaces.{input_none, input_first}
use Rattle.siphon_branch.proofs.live_class.first_input.Goals as goal

pub returns-then-contains : goal.returns-then-contains
returns-then-contains c =
    let within : c.loop-entry.entry-index < length c.inputs-inputs.result.now = omega arith in
    let member : IsTrue (has c.args.set.now (get_or c.inputs-inputs.result.now c.loop-entry.entry-index nowhere).place) = search rules in
    input_first (net_of c.args.net.now) (has c.args.set.now) c.args.t c.inputs-inputs.result.now c.inputs-inputs.ensures.lists c.loop-entry.entry-index c.loop-entry.invariant within member

pub returns : goal.returns
returns c =
    let past : length c.inputs-inputs.result.now ≤ c.loop-entry.entry-index = omega arith in
    input_none (net_of c.args.net.now) (has c.args.set.now) c.args.t c.inputs-inputs.result.now c.inputs-inputs.ensures.lists c.loop-entry.entry-index c.loop-entry.invariant past
