use Rattle.closed_sets.proofs.Firing.{siphon_along}
use Rattle.closed_sets.proofs.laws.empty_siphons_stay_empty.Goals as goal

pub returns : goal.returns
returns c = siphon_along
