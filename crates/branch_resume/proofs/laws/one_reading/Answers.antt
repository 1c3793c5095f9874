use Rattle.branch_resume.proofs.Unique.{one_reading}
use Rattle.branch_resume.proofs.laws.one_reading.Goals as goal

pub returns : goal.returns
returns c = one_reading
