-- Each text spells its document only.
use Rattle.pnml_grammar.proofs.CanonLaws.{canon_tells}
use Rattle.pnml_grammar.proofs.laws.canonical_text_tells_documents_apart.Goals as goal

pub returns : goal.returns
returns c = canon_tells
