use Rattle.struct_core.proofs.Outcomes.{prints_closed_sets}
use Rattle.struct_core.proofs.laws.printed_sets_are_closed.Goals as goal

pub returns : goal.returns
returns c = prints_closed_sets
