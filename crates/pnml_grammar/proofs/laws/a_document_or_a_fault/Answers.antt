-- Taking the tokens one after the other ends in one or the other.
use Rattle.pnml_grammar.proofs.SomeAnswer.{some_answer}
use Rattle.pnml_grammar.proofs.laws.a_document_or_a_fault.Goals as goal

pub returns : goal.returns
returns c = some_answer
