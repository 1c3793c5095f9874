use Rattle.incidence.proofs.Firing.{weighted_tokens_stay}
use Rattle.incidence.proofs.laws.weighted_tokens_stay.Goals as goal

pub returns : goal.returns
returns c = weighted_tokens_stay
