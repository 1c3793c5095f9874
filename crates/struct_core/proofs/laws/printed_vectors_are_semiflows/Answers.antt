use Rattle.struct_core.proofs.Outcomes.{prints_semiflows}
use Rattle.struct_core.proofs.laws.printed_vectors_are_semiflows.Goals as goal

pub returns : goal.returns
returns c = prints_semiflows
