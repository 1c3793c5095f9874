-- A name has a text, so an element with a name has children.
use Rattle.std.proofs.Common.{◌++◌, sym}
use Rattle.std.specs.Prelude.{codes}
use Rattle.pnml_grammar.specs.Canon.{name_text}
use Rattle.pnml_write.specs.Elements.{after_attributes}
use Rattle.pnml_write.proofs.Pieces.{joined, finished}
use Rattle.pnml_write.proofs.Labels.{after_full, name_some}
use Rattle.pnml_write.proofs.elements.push_named_rest.Goals as goal

pub returns : goal.returns
returns c =
    let opening = codes ">" in
    let name = name_text c.args.name.now in
    finished c.push-3.result c.args.text.now c.push_name_if_any.new.text c.push-3.new.self (opening ++ name) c.args.end.now (after_attributes name c.args.end.now)
    (joined c.args.text.now c.push-2.new.self c.push_name_if_any.new.text opening name c.in_ok-push.ensures.ok c.in_ok-push_name_if_any.ensures)
    (after_full name c.args.end.now (name_some c.args.name.now (sym c.if-is_none.ensures))) c.push-3.ensures.ok
