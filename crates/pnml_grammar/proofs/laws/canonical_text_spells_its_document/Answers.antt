-- Its tokens are read as the document.
use Rattle.pnml_grammar.proofs.CanonLaws.{canon_is}
use Rattle.pnml_grammar.proofs.laws.canonical_text_spells_its_document.Goals as goal

pub returns : goal.returns
returns c = canon_is
