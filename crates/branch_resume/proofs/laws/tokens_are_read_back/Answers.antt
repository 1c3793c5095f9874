use Rattle.branch_resume.proofs.Unique.{tokens_are_read_back}
use Rattle.branch_resume.proofs.laws.tokens_are_read_back.Goals as goal

pub returns : goal.returns
returns c = tokens_are_read_back
