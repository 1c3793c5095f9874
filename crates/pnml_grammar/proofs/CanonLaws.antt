-- The canonical text spells its document: its tokens occur in it, each with legal texts, and they are read as
-- the document.
use Rattle.std.proofs.Common.{sym, ap, subst, length}
use Rattle.pnml_grammar.specs.Tokens.{first_offset}
use Rattle.pnml_grammar.specs.Documents.{DocBytes}
use Rattle.pnml_grammar.specs.Canon.{canon}
use Rattle.pnml_grammar.specs.CanonicalTexts.{SpellTheirDocuments, TellDocumentsApart}
use Rattle.pnml_grammar.proofs.ReasonLaws.{tokens_are_legal}
use Rattle.pnml_grammar.proofs.DocumentLaws.{read_spells, spells_one}
use Rattle.pnml_grammar.proofs.CanonTokens.{canon_tokens}
use Rattle.pnml_grammar.proofs.CanonSpelling.{canon_spelled}
use Rattle.pnml_grammar.proofs.CanonReading.{canon_read}

pub canon_is : SpellTheirDocuments
canon_is document valued =
    let spelled = canon_spelled document valued in
    let legal = tokens_are_legal (canon document) (canon_tokens document) (first_offset (canon document)) (length (canon document)) spelled in
    record {
      list = canon_tokens document;
      tokens_are = spelled;
      spells = read_spells document (canon_tokens document) legal (canon_read document valued);
    }

-- the text tells the document, since it spells no other
pub canon_tells : TellDocumentsApart
canon_tells document other valued also =
    (λ same. spells_one (canon document) document other (canon_is document valued) (subst (DocBytes other) (sym same) (canon_is other also)), λ same. ap canon same)
