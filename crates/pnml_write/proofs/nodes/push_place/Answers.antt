-- The attribute and the rest after it are the text of the place.
use Rattle.std.proofs.Common.{◌++◌}
use Rattle.std.specs.Prelude.{codes}
use Rattle.net_values.specs.declared.document.Item.TheVariants.{Place}
use Rattle.pnml_grammar.specs.Canon.{name_text, marking_text, item_text}
use Rattle.pnml_write.specs.Elements.{after_attributes, quoted}
use Rattle.pnml_write.proofs.Pieces.{finished}
use Rattle.pnml_write.proofs.Shapes.{place_is}
use Rattle.pnml_write.proofs.nodes.push_place.Goals as goal

pub returns : goal.returns
returns c =
    let node = c.args.place.now in
    finished c.push_labelled_rest.result c.args.text.now c.push_attribute.new.text c.push_labelled_rest.new.text (quoted (codes "<place id=\"") node.id) (after_attributes (name_text node.name ++ marking_text node.initial) (codes "</place>")) (item_text (Place node))
    c.in_ok-push_attribute.ensures (place_is node) c.push_labelled_rest.ensures
