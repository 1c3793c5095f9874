use Rattle.free_choice_live.proofs.LostTransitions.{commoner_is_live}
use Rattle.free_choice_live.proofs.laws.commoner_gives_liveness.Goals as goal

pub returns : goal.returns
returns c = commoner_is_live
