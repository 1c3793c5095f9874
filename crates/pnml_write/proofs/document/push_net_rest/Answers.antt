-- Items have a text, so a net with items has children.
use Rattle.std.proofs.Common.{◌++◌, ◌∙◌, ap}
use Rattle.std.specs.Prelude.{codes}
use Rattle.pnml_grammar.specs.Canon.{name_text, items_text}
use Rattle.pnml_write.proofs.Labels.{rest_with_label}
use Rattle.pnml_write.proofs.Sequences.{items_some}
use Rattle.pnml_write.proofs.document.push_net_rest.Goals as goal

pub returns : goal.returns
returns c =
    rest_with_label c.push-2.result c.args.text.now c.push.new.self c.push_name_if_any.new.text c.push_items.new.text c.push-2.new.self
    (name_text c.args.net.now.name) (items_text c.args.net.now.items) (codes "</net>")
    (items_some c.args.net.now.items (λ e. c.if-len-eq0.false (c.len.ensures ∙ e)))
    c.in_ok-push.ensures.ok c.in_ok-push_name_if_any.ensures
    (c.in_ok-push_items.ensures ∙ ap (λ t. c.push_name_if_any.new.text ++ items_text t) c.as_slice.ensures)
    c.push-2.ensures.ok
