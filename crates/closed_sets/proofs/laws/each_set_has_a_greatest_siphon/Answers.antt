use Rattle.closed_sets.proofs.GreatestSiphons.{greatest_there}
use Rattle.closed_sets.proofs.laws.each_set_has_a_greatest_siphon.Goals as goal

pub returns : goal.returns
returns c = greatest_there
