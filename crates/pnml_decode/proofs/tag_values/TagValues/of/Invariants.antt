-- The values so far are those of the attributes that were taken from the end.
use Rattle.std.proofs.Common.{◌≡◌, ◌++◌, List, length}
use Rattle.pnml_grammar.specs.declared.token.Attribute.{Attribute}
use Rattle.pnml_decode.specs.Views.{tag_values}
use Rattle.pnml_decode.proofs.tag_values.TagValues.of.Given as goal

abbrev pub invariant-left : goal.invariant-left
invariant-left l = (later : List Attribute) × (l.fn.attributes ≡ l.left ++ later) × (l.values ≡ tag_values later)

abbrev pub decreases-left : goal.decreases-left
decreases-left l = length l.left
