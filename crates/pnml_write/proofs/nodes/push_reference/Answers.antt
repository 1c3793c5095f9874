-- The two attributes and the rest after them are the text of the node.
use Rattle.std.proofs.Common.{◌++◌, refl}
use Rattle.std.specs.Prelude.{codes}
use Rattle.pnml_grammar.specs.Canon.{name_text}
use Rattle.pnml_write.specs.Elements.{after_attributes, quoted, reference_text}
use Rattle.pnml_write.proofs.Pieces.{joined, finished}
use Rattle.pnml_write.proofs.nodes.push_reference.Goals as goal

pub returns : goal.returns
returns c =
    let node = c.args.node.now in
    let id = quoted c.args.opening.now node.id in
    let target = quoted (codes " ref=\"") node.target in
    finished c.push_named_rest.result c.args.text.now c.push_attribute-2.new.text c.push_named_rest.new.text (id ++ target) (after_attributes (name_text node.name) c.args.end.now) (reference_text c.args.opening.now node c.args.end.now)
    (joined c.args.text.now c.push_attribute.new.text c.push_attribute-2.new.text id target c.in_ok-push_attribute.ensures c.in_ok-push_attribute-2.ensures)
    refl c.push_named_rest.ensures
