use Rattle.struct_core.proofs.VerdictLaws.{prints_bounds_that_hold}
use Rattle.struct_core.proofs.laws.printed_bounds_hold.Goals as goal

pub returns : goal.returns
returns c = prints_bounds_that_hold
