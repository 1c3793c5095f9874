-- What canonical texts spell, and what they tell.
use Rattle.std.specs.Prelude.{◌≡◌, ◌↔◌}
use Rattle.net_values.specs.declared.document.Document.{Document}
use Rattle.pnml_grammar.specs.Canon.{canon}
use Rattle.pnml_grammar.specs.Documents.{DocBytes}
use Rattle.pnml_grammar.specs.Valued.{Valued}

-- the canonical text of a valued document spells it
abbrev pub SpellTheirDocuments : Type 0
SpellTheirDocuments = (document : Document) → Valued document → DocBytes document (canon document)

-- canonical texts of valued documents are equal exactly where the documents are equal
abbrev pub TellDocumentsApart : Type 0
TellDocumentsApart =
    (document other : Document) → Valued document → Valued other → (canon document ≡ canon other) ↔ (document ≡ other)
