-- The tokens of the bytes are one list, and reading it gives both.
use Rattle.pnml_grammar.proofs.DocumentLaws.{spells_one}
use Rattle.pnml_grammar.proofs.laws.one_document.Goals as goal

pub returns : goal.returns
returns c = spells_one
