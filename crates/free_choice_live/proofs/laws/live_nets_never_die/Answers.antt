use Rattle.free_choice_live.proofs.Firing.{live_never_dead}
use Rattle.free_choice_live.proofs.laws.live_nets_never_die.Goals as goal

pub returns : goal.returns
returns c = live_never_dead
