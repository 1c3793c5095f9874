use Rattle.siphon_branch.proofs.Limits.{lists_there}
use Rattle.siphon_branch.proofs.laws.minimal_siphons_have_a_list.Goals as goal

pub returns : goal.returns
returns c = lists_there
