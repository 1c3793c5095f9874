-- What is read, and then the answer.
use Rattle.std.proofs.Common.{[]}
use Rattle.page_flatten.proofs.FaultLaws.{err_goes}
use Rattle.struct_core.specs.declared.order.Order.TheVariants.{Run, Sample}
use Rattle.struct_core.specs.Obtaining.{EndsBy}
use Rattle.struct_core.specs.Run.{device}
use Rattle.struct_core.proofs.Exits.{read_nothing, text_there, no_text}
use Rattle.struct_core.proofs.InputReads.{taken_gives_refusal, taken_gives_text}
use Rattle.struct_core.proofs.running.obtain.Goals as goal

pub answer-requires-clause-taken : goal.answer-requires-clause-taken
answer-requires-clause-taken g c = (c.in_ok-intake-in-Run.ensures.taken.input, c.in_ok-intake-in-Run.ensures.taken.taken)

pub returns-in_err-intake-in-Run-clause-refused : goal.returns-in_err-intake-in-Run-clause-refused
returns-in_err-intake-in-Run-clause-refused g c =
    rw c.in-Run.is (err_goes (EndsBy (Run c.in-Run.task c.in-Run.net c.in-Run.budgets) _ _) c.from_residual.result _ c.from_residual.ensures.1
    (c.in_err-intake-in-Run.ensures.refused c.in-Run.net c.in-Run.budgets))

pub returns-in_ok-intake-in-Run-clause-refused : goal.returns-in_ok-intake-in-Run-clause-refused
returns-in_ok-intake-in-Run-clause-refused g c =
    rw c.in-Run.is (taken_gives_refusal c.in-Run.task c.in-Run.net c.in-Run.budgets _ _ c.in_ok-intake-in-Run.intake c.in_ok-intake-in-Run.ensures.taken c.answer.result c.answer.ensures.refused)

pub returns-in_ok-intake-in-Run-clause-text : goal.returns-in_ok-intake-in-Run-clause-text
returns-in_ok-intake-in-Run-clause-text g c =
    rw c.in-Run.is (taken_gives_text c.in-Run.task c.in-Run.net c.in-Run.budgets _ _ c.in_ok-intake-in-Run.intake c.in_ok-intake-in-Run.ensures.taken c.answer.result c.answer.ensures.text)

pub returns-in-Sample-clause-refused : goal.returns-in-Sample-clause-refused
returns-in-Sample-clause-refused g c =
    let source = device (g.S.Source.left c.args.source.now) (g.S.Source.faults c.args.source.now) in
    rw c.in-Sample.is (no_text (Sample c.in-Sample.n) source source [] c.sample_report.result (read_nothing c.in-Sample.n source []) c.sample_report.ensures.refused)

pub returns-in-Sample-clause-text : goal.returns-in-Sample-clause-text
returns-in-Sample-clause-text g c =
    let source = device (g.S.Source.left c.args.source.now) (g.S.Source.faults c.args.source.now) in
    rw c.in-Sample.is (text_there (Sample c.in-Sample.n) source source [] c.sample_report.result (read_nothing c.in-Sample.n source []) c.sample_report.ensures.text)
