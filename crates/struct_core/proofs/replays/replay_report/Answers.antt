-- The text of the replay, the bad line, or the member that doesn't fire.
use Rattle.net_values.specs.FlatNets.{net_of}
use Rattle.net_values.specs.Nodes.{place_id, transition_id}
use Rattle.struct_core.proofs.FiringOutcomes.{bad_line_told, no_firing_told, replay_told}
use Rattle.struct_core.proofs.replays.replay_report.Goals as goal

pub returns-in-Err-BadLine-clause-refused : goal.returns-in-Err-BadLine-clause-refused
returns-in-Err-BadLine-clause-refused c =
    rw c.in-Err-BadLine.field-0-is (bad_line_told (net_of c.args.net.now) (place_id c.args.net.now) (transition_id c.args.net.now) c.args.bytes.now _ c.in-Err-BadLine.field-0 c.in-Err-BadLine.field-0-is c.in-Err-BadLine.ensures.bad)

pub returns-in-Ok-replay-clause-text : goal.returns-in-Ok-replay-clause-text
returns-in-Ok-replay-clause-text c =
    replay_told (net_of c.args.net.now) (place_id c.args.net.now) (transition_id c.args.net.now) c.args.bytes.now _ _ _ c.in-Ok.ensures.listed c.in-Ok-replay.ensures.replayed c.in_ok-replay_text-in-Ok-replay.ensures

pub returns-clause-refused : goal.returns-clause-refused
returns-clause-refused c =
    no_firing_told (net_of c.args.net.now) (place_id c.args.net.now) (transition_id c.args.net.now) c.args.bytes.now _ _ c.in-Ok.ensures.listed c.refusal_of.ensures
