use Rattle.struct_core.proofs.SomeSample as outcomes
use Rattle.struct_core.proofs.laws.some_outcome.Goals as goal

pub returns : goal.returns
returns c = outcomes.some_outcome
