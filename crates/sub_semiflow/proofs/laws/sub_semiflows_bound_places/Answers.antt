use Rattle.sub_semiflow.proofs.Bounding.{sub_semiflows_bound_places}
use Rattle.sub_semiflow.proofs.laws.sub_semiflows_bound_places.Goals as goal

pub returns : goal.returns
returns c = sub_semiflows_bound_places
