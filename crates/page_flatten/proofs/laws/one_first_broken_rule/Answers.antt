use Rattle.page_flatten.proofs.OneAnswer.{one_fault}
use Rattle.page_flatten.proofs.laws.one_first_broken_rule.Goals as goal

pub returns : goal.returns
returns c = one_fault
