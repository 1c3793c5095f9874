use Rattle.struct_core.proofs.OneOutcome as outcomes
use Rattle.struct_core.proofs.laws.one_outcome.Goals as goal

pub returns : goal.returns
returns c = outcomes.one_outcome
