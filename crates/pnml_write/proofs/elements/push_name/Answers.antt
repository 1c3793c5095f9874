-- An empty name is written as an empty `text`, any other as a `text` with its value.
use Rattle.std.proofs.Common.{append-nil, sym, ◌++◌, ap, ◌∙◌, List, ℕ, []}
use Rattle.std.specs.Prelude.{codes}
use Rattle.pnml_grammar.specs.Canon.{label, escaped}
use Rattle.pnml_write.proofs.Pieces.{joined, finished}
use Rattle.pnml_write.proofs.Labels.{name_full, name_empty, empty_text, some_text}
use Rattle.pnml_write.proofs.elements.push_name.Goals as goal

pub returns-then-is_empty : goal.returns-then-is_empty
returns-then-is_empty c =
    let empty = empty_text c.args.name.now c.as_str.result.now c.is_empty.result c.as_str.ensures c.is_empty.ensures c.if-is_empty.true in
    finished c.push.result c.args.text.now c.args.text.now c.push.new.self [] (codes "<name><text/></name>") _
    (sym (append-nil c.args.text.now)) (name_empty ∙ ap (λ (t : List ℕ). label (codes "name") (escaped t)) (sym empty)) c.push.ensures.ok

pub returns : goal.returns
returns c =
    let opening = codes "<name><text>" in
    let name = escaped c.args.name.now in
    finished c.push-3.result c.args.text.now c.push_value.new.text c.push-3.new.self (opening ++ name) (codes "</text></name>") (label (codes "name") name)
    (joined c.args.text.now c.push-2.new.self c.push_value.new.text opening name c.in_ok-push.ensures.ok (c.in_ok-push_value.ensures ∙ ap (λ (t : List ℕ). c.push-2.new.self ++ escaped t) c.as_str-2.ensures))
    (name_full c.args.name.now (some_text c.args.name.now c.as_str.result.now c.is_empty.result c.as_str.ensures c.is_empty.ensures c.if-is_empty.false)) c.push-3.ensures.ok
