-- The attribute and the rest after it are the text of the transition.
use Rattle.std.specs.Prelude.{codes}
use Rattle.net_values.specs.declared.document.Item.TheVariants.{Transition}
use Rattle.pnml_grammar.specs.Canon.{name_text, item_text}
use Rattle.pnml_write.specs.Elements.{after_attributes, quoted}
use Rattle.pnml_write.proofs.Pieces.{finished}
use Rattle.pnml_write.proofs.Shapes.{transition_is}
use Rattle.pnml_write.proofs.nodes.push_transition.Goals as goal

pub returns : goal.returns
returns c =
    let node = c.args.transition.now in
    finished c.push_named_rest.result c.args.text.now c.push_attribute.new.text c.push_named_rest.new.text (quoted (codes "<transition id=\"") node.id) (after_attributes (name_text node.name) (codes "</transition>")) (item_text (Transition node))
    c.in_ok-push_attribute.ensures (transition_is node) c.push_named_rest.ensures
