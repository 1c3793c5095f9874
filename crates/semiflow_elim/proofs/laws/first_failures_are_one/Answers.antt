use Rattle.semiflow_elim.proofs.OneFailure.{first_failures_are_one}
use Rattle.semiflow_elim.proofs.laws.first_failures_are_one.Goals as goal

pub returns : goal.returns
returns c = first_failures_are_one
