-- No attribute before the offset has the name.
use Rattle.std.proofs.Common.{◌≡◌, drop}
use Rattle.pnml_grammar.specs.Elements.{value_of}
use Rattle.pnml_decode.proofs.attributes.value_of.Given as goal

abbrev pub invariant-loop-attribute : goal.invariant-loop-attribute
invariant-loop-attribute l = value_of l.name (drop l.attribute-index l.attributes) ≡ value_of l.name l.attributes
