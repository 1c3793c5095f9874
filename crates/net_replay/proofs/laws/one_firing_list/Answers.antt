use Rattle.net_replay.proofs.Reading.{one_firing_list}
use Rattle.net_replay.proofs.laws.one_firing_list.Goals as goal

pub returns : goal.returns
returns c = one_firing_list
