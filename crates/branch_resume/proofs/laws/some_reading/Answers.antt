use Rattle.branch_resume.proofs.SomeReading.{some_reading}
use Rattle.branch_resume.proofs.laws.some_reading.Goals as goal

pub returns : goal.returns
returns c = some_reading
