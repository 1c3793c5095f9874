-- Each fault is a refusal that its outcome tells, and a text that of the last case.
use Rattle.std.proofs.Common.{◌∙◌, List, ℕ}
use Rattle.page_flatten.proofs.FaultLaws.{err_goes}
use Rattle.report.specs.declared.refusal.Refusal.{Refusal}
use Rattle.struct_core.specs.declared.intake.Intake.{Intake}
use Rattle.struct_core.specs.declared.order.Budgets.{Budgets}
use Rattle.struct_core.specs.declared.order.Order.TheVariants.{Run}
use Rattle.struct_core.specs.declared.order.Task.{Task}
use Rattle.struct_core.specs.Answers.{FailsWith}
use Rattle.struct_core.specs.Inputs.{front_of}
use Rattle.struct_core.specs.Intaking.{HasTaken}
use Rattle.struct_core.specs.Outcome.{Outcome}
use Rattle.struct_core.proofs.Refusing.{if_ok, if_err, document_refused, rules_broken, task_answers, task_fails}
use Rattle.struct_core.proofs.answer.answer.Goals as goal

-- a refusal for whatever bytes were taken
abbrev pub Refused : Task → ℕ → Budgets → Intake → Refusal → Type 0
Refused task k budgets intake refusal = (bytes : List ℕ) → HasTaken task intake bytes → FailsWith (Outcome (Run task k budgets) bytes) refusal

pub returns-in_err-document-clause-refused : goal.returns-in_err-document-clause-refused
returns-in_err-document-clause-refused c =
    let task = c.args.task in
    err_goes (Refused task c.args.k c.args.budgets c.args.intake) c.from_residual.result _ c.from_residual.ensures.1
    (λ bytes has. document_refused task c.args.k c.args.budgets bytes c.in_err-document.field-0.0 (c.in_err-document.ensures.fault (front_of task bytes) has.stands))

pub chosen_net-requires-clause-valued : goal.chosen_net-requires-clause-valued
chosen_net-requires-clause-valued c =
    let taken = c.requires.taken in
    let spelled = c.in_ok-document.ensures.found (front_of c.args.task taken.0) taken.1.stands in
    spelled.spells.valued

pub returns-in_err-net-clause-refused : goal.returns-in_err-net-clause-refused
returns-in_err-net-clause-refused c =
    let task = c.args.task in
    err_goes (Refused task c.args.k c.args.budgets c.args.intake) c.from_residual-in_err-net.result _ c.from_residual-in_err-net.ensures.1
    (λ bytes has. rules_broken task c.args.k c.args.budgets bytes c.in_ok-document.document c.in_err-net.field-0.0
    (c.in_ok-document.ensures.found (front_of task bytes) has.stands) c.in_err-net.ensures.refused)

pub returns-clause-text : goal.returns-clause-text
returns-clause-text c =
    let task = c.args.task in
    if_ok c.text_of.result
    (λ text is bytes has. task_answers task c.args.k c.args.budgets bytes c.as_slice.result.now c.in_ok-document.document c.in_ok-net.net (c.as_slice.ensures.value ∙ has.kept)
    (c.in_ok-document.ensures.found (front_of task bytes) has.stands) c.in_ok-net.ensures.flat 0 text is)
    c.text_of.ensures.text

pub returns-clause-refused : goal.returns-clause-refused
returns-clause-refused c =
    let task = c.args.task in
    if_err c.text_of.result
    (λ refusal is bytes has. task_fails task c.args.k c.args.budgets bytes c.as_slice.result.now c.in_ok-document.document c.in_ok-net.net (c.as_slice.ensures.value ∙ has.kept)
    (c.in_ok-document.ensures.found (front_of task bytes) has.stands) c.in_ok-net.ensures.flat refusal is)
    c.text_of.ensures.refused
