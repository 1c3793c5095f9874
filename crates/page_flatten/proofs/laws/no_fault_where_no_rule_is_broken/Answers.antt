use Rattle.page_flatten.proofs.OneAnswer.{breaks_where_faulty}
use Rattle.page_flatten.proofs.laws.no_fault_where_no_rule_is_broken.Goals as goal

pub returns : goal.returns
returns c = breaks_where_faulty
