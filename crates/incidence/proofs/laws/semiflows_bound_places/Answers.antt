use Rattle.incidence.proofs.Firing.{semiflows_bound_places}
use Rattle.incidence.proofs.laws.semiflows_bound_places.Goals as goal

pub returns : goal.returns
returns c = semiflows_bound_places
