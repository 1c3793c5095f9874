use Rattle.semiflow_elim.proofs.OneFailure.{failures_exclude_passing}
use Rattle.semiflow_elim.proofs.laws.failures_exclude_passing.Goals as goal

pub returns : goal.returns
returns c = failures_exclude_passing
