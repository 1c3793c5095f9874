use Rattle.closed_sets.proofs.Firing.{dead_empties}
use Rattle.closed_sets.proofs.laws.dead_markings_empty_a_siphon.Goals as goal

pub returns : goal.returns
returns c = dead_empties
