-- The three attributes and the rest after them are the text of the arc.
use Rattle.std.proofs.Common.{◌++◌}
use Rattle.std.specs.Prelude.{codes}
use Rattle.net_values.specs.declared.document.Item.TheVariants.{Arc}
use Rattle.pnml_grammar.specs.Canon.{name_text, weight_text, item_text}
use Rattle.pnml_write.specs.Elements.{after_attributes, quoted}
use Rattle.pnml_write.proofs.Pieces.{joined, finished}
use Rattle.pnml_write.proofs.Shapes.{arc_is}
use Rattle.pnml_write.proofs.nodes.push_arc.Goals as goal

pub returns : goal.returns
returns c =
    let arc = c.args.arc.now in
    let id = quoted (codes "<arc id=\"") arc.id in
    let source = quoted (codes " source=\"") arc.source in
    let target = quoted (codes " target=\"") arc.target in
    finished c.push_labelled_rest.result c.args.text.now c.push_attribute-3.new.text c.push_labelled_rest.new.text (id ++ source ++ target) (after_attributes (name_text arc.name ++ weight_text arc.weight) (codes "</arc>")) (item_text (Arc arc))
    (joined c.args.text.now c.push_attribute-2.new.text c.push_attribute-3.new.text (id ++ source) target
    (joined c.args.text.now c.push_attribute.new.text c.push_attribute-2.new.text id source c.in_ok-push_attribute.ensures c.in_ok-push_attribute-2.ensures)
    c.in_ok-push_attribute-3.ensures)
    (arc_is arc) c.push_labelled_rest.ensures
