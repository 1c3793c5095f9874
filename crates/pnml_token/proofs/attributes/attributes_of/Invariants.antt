use Rattle.std.proofs.Common.{◌≡◌, drop}
use Rattle.pnml_grammar.specs.Reading.{attributes_of}
use Rattle.pnml_token.specs.Views.{views}
use Rattle.pnml_token.proofs.AttributeLists.{with_attributes}
use Rattle.pnml_token.proofs.attributes.attributes_of.Given as goal

-- the attributes so far and those of the settings that are left are all
abbrev pub invariant-loop-raw_attribute : goal.invariant-loop-raw_attribute
invariant-loop-raw_attribute l = with_attributes l.attributes (attributes_of (drop l.raw_attribute-index (views l.raw_attributes))) ≡ attributes_of (views l.raw_attributes)
