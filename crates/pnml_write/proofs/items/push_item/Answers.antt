-- The end of a page is its end tag, and a reference node goes by its kind; the other items are those of the
-- functions that are called.
use Rattle.std.proofs.Common.{[], sym, append-nil, ap, ◌∙◌}
use Rattle.std.specs.Prelude.{codes}
use Rattle.pnml_grammar.specs.Canon.{item_text}
use Rattle.pnml_write.proofs.Pieces.{finished, told_by}
use Rattle.pnml_write.proofs.Shapes.{page_end_is, reference_place_is, reference_transition_is}
use Rattle.pnml_write.proofs.items.push_item.Goals as goal

pub returns-in-PageEnd : goal.returns-in-PageEnd
returns-in-PageEnd c =
    finished c.push.result c.args.text.now c.args.text.now c.push.new.self [] (codes "</page>") (item_text c.args.item.now)
    (sym (append-nil c.args.text.now)) (page_end_is ∙ ap item_text (sym c.in-PageEnd.is)) c.push.ensures.ok

pub returns-in-RefPlace : goal.returns-in-RefPlace
returns-in-RefPlace c =
    told_by c.push_reference.result c.args.text.now c.push_reference.new.text _ _
    (reference_place_is c.in-RefPlace.node ∙ ap item_text (sym c.in-RefPlace.is)) c.push_reference.ensures

pub returns-in-RefTransition : goal.returns-in-RefTransition
returns-in-RefTransition c =
    told_by c.push_reference-in-RefTransition.result c.args.text.now c.push_reference-in-RefTransition.new.text _ _
    (reference_transition_is c.in-RefTransition.node ∙ ap item_text (sym c.in-RefTransition.is)) c.push_reference-in-RefTransition.ensures
