use Rattle.page_flatten.proofs.SomeAnswer.{net_or_fault}
use Rattle.page_flatten.proofs.laws.a_flat_net_or_a_first_broken_rule.Goals as goal

pub returns : goal.returns
returns c = net_or_fault
