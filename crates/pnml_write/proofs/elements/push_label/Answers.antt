-- A usual number has no label; any other has one with its decimal text, which is never empty.
use Rattle.std.proofs.Common.{◌≢◌, ◌∙◌, [], arith, ap, subst, sym}
use Rattle.pnml_write.specs.declared.elements.NumberLabel.{NumberLabel}
use Rattle.pnml_write.specs.Elements.{label_text}
use Rattle.pnml_write.proofs.Labels.{marking_full, weight_full}
use Rattle.pnml_write.proofs.Pieces.{told_by}
use Rattle.pnml_write.proofs.elements.push_label.Goals as goal

pub returns-in-Marking : goal.returns-in-Marking
returns-in-Marking c =
    let some = subst (λ (label : NumberLabel). label_text label ≢ []) c.in-Marking.is c.if-is_usual.ensures in
    told_by c.push_number_label.result c.args.text.now c.push_number_label.new.text _ _
    (marking_full c.in-Marking.tokens (omega arith) some ∙ ap label_text (sym c.in-Marking.is)) c.push_number_label.ensures

pub returns-in-Weight : goal.returns-in-Weight
returns-in-Weight c =
    let some = subst (λ (label : NumberLabel). label_text label ≢ []) c.in-Weight.is c.if-is_usual.ensures in
    told_by c.push_number_label-in-Weight.result c.args.text.now c.push_number_label-in-Weight.new.text _ _
    (weight_full c.in-Weight.weight (omega arith) some ∙ ap label_text (sym c.in-Weight.is)) c.push_number_label-in-Weight.ensures
