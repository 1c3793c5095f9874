use Rattle.branch_resume.proofs.SomeRun.{some_run}
use Rattle.branch_resume.proofs.laws.some_run.Goals as goal

pub returns : goal.returns
returns c = some_run
