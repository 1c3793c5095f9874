use Rattle.closed_sets.proofs.Firing.{trap_along}
use Rattle.closed_sets.proofs.laws.traps_stay_marked.Goals as goal

pub returns : goal.returns
returns c = trap_along
