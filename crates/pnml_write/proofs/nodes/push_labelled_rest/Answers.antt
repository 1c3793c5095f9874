-- Without a label the name only decides whether there are children; with one there are some.
use Rattle.pnml_grammar.specs.Canon.{name_text}
use Rattle.pnml_write.specs.Elements.{label_text}
use Rattle.pnml_write.proofs.Labels.{rest_without_label, rest_with_label}
use Rattle.pnml_write.proofs.nodes.push_labelled_rest.Goals as goal

pub returns-then-is_usual : goal.returns-then-is_usual
returns-then-is_usual c =
    rest_without_label c.push_named_rest.result c.args.text.now c.push_named_rest.new.text (name_text c.args.name.now) (label_text c.args.label) c.args.end.now
    c.if-is_usual.ensures c.push_named_rest.ensures

pub returns : goal.returns
returns c =
    rest_with_label c.push-2.result c.args.text.now c.push.new.self c.push_name_if_any.new.text c.push_label.new.text c.push-2.new.self
    (name_text c.args.name.now) (label_text c.args.label) c.args.end.now
    c.if-is_usual.ensures c.in_ok-push.ensures.ok c.in_ok-push_name_if_any.ensures c.in_ok-push_label.ensures c.push-2.ensures.ok
