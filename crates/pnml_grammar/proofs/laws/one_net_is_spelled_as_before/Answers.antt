-- Each element below the root gives what it gave, and the root the document of its net.
use Rattle.pnml_grammar.proofs.OneNetLaws.{stays_for_one_net}
use Rattle.pnml_grammar.proofs.laws.one_net_is_spelled_as_before.Goals as goal

pub returns : goal.returns
returns c = stays_for_one_net
