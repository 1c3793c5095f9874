use Rattle.net_replay.proofs.OneReplay.{a_replay_or_a_failure}
use Rattle.net_replay.proofs.laws.a_replay_or_a_failure.Goals as goal

pub returns : goal.returns
returns c = a_replay_or_a_failure
