use Rattle.net_replay.proofs.OneReplay.{one_replay}
use Rattle.net_replay.proofs.laws.one_replay.Goals as goal

pub returns : goal.returns
returns c = one_replay
