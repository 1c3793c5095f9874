use Rattle.closed_sets.proofs.Firing.{commoner_excludes}
use Rattle.closed_sets.proofs.laws.commoner_excludes_dead_markings.Goals as goal

pub returns : goal.returns
returns c = commoner_excludes
