-- The test decides.
use Rattle.pnml_grammar.proofs.ValuedNets.{valued_or_not}
use Rattle.pnml_grammar.proofs.laws.a_document_is_valued_or_not.Goals as goal

pub returns : goal.returns
returns c = valued_or_not
