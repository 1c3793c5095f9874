use Rattle.closed_sets.proofs.GreatestSiphons.{one_place_less}
use Rattle.closed_sets.proofs.laws.one_place_less_is_left_of_the_greatest.Goals as goal

pub returns : goal.returns
returns c = one_place_less
