use Rattle.net_replay.proofs.Reading.{a_firing_list_or_a_bad_line}
use Rattle.net_replay.proofs.laws.a_firing_list_or_a_bad_line.Goals as goal

pub returns : goal.returns
returns c = a_firing_list_or_a_bad_line
