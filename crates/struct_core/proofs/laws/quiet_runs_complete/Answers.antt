use Rattle.struct_core.proofs.Completing.{quiet_runs}
use Rattle.struct_core.proofs.laws.quiet_runs_complete.Goals as goal

pub returns : goal.returns
returns c = quiet_runs
