-- A setting without where its bytes lie in memory.
use Rattle.std.specs.Prelude.{List, map}
use Rattle.pnml_grammar.specs.Declarations.{RawAttribute}
use Rattle.pnml_token.specs.declared.attributes.RawAttribute.{RawAttribute as Lent}

abbrev pub view : Lent → RawAttribute
view s = record { name = s.name.now; body = s.body.now }

abbrev pub views : List Lent → List RawAttribute
views raw_attributes = map view raw_attributes
