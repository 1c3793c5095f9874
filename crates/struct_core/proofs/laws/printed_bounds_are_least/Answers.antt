use Rattle.struct_core.proofs.VerdictLaws.{prints_least_bounds}
use Rattle.struct_core.proofs.laws.printed_bounds_are_least.Goals as goal

pub returns : goal.returns
returns c = prints_least_bounds
