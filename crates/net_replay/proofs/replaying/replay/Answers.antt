-- The marking, the counts and whether the initial marking is there again.
use Rattle.net_values.specs.FlatNets.{net_of}
use Rattle.net_replay.proofs.OneReplay.{is_replay}
use Rattle.net_replay.proofs.replaying.replay.Goals as goal

pub returns-clause-replayed : goal.returns-clause-replayed
returns-clause-replayed c = is_replay (net_of c.args.net.now) c.args.list.now _ c.in_ok-fire_all.ensures.places c.in_ok-fire_all.ensures.ok c.in_ok-counts.ensures c.returns-semiflow.ensures
