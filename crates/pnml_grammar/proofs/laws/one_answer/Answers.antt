-- A first fault leaves no room for another, nor for a document.
use Rattle.pnml_grammar.proofs.OneFault.{one_answer}
use Rattle.pnml_grammar.proofs.laws.one_answer.Goals as goal

pub returns : goal.returns
returns c = one_answer
