-- The canonical text of the sample net spells it, and it breaks no rule, so that neither is refused.
use Rattle.std.proofs.Common.{[]}
use Rattle.page_flatten.proofs.FaultLaws.{err_goes}
use Rattle.struct_core.specs.declared.order.Order.TheVariants.{Sample}
use Rattle.struct_core.specs.Answers.{FailsWith}
use Rattle.struct_core.specs.Outcome.{Outcome}
use Rattle.struct_core.proofs.Sampling.{not_misspelled, not_broken, sample_told, sample_refused}
use Rattle.struct_core.proofs.sample.sample_report.Goals as goal

pub returns-in_err-document-clause-refused : goal.returns-in_err-document-clause-refused
returns-in_err-document-clause-refused c =
    err_goes (FailsWith (Outcome (Sample c.args.n) [])) c.from_residual-in_err-document.result _ c.from_residual-in_err-document.ensures.1
    (not_misspelled c.args.n _ _ c.in_err-document.field-0.0 c.requires c.in_ok-sample.ensures c.in_ok-bytes.ensures.exact c.as_bytes.ensures.value c.in_err-document.ensures.fault)

pub returns-in_err-net-clause-refused : goal.returns-in_err-net-clause-refused
returns-in_err-net-clause-refused c =
    err_goes (FailsWith (Outcome (Sample c.args.n) [])) c.from_residual-in_err-net.result _ c.from_residual-in_err-net.ensures.1
    (not_broken c.args.n _ _ c.in_ok-document.document c.in_err-net.field-0.0 c.requires c.in_ok-sample.ensures c.in_ok-bytes.ensures.exact c.as_bytes.ensures.value c.in_ok-document.ensures.found c.in_err-net.ensures.refused)

pub returns-in_err-summary-clause-refused : goal.returns-in_err-summary-clause-refused
returns-in_err-summary-clause-refused c =
    err_goes (FailsWith (Outcome (Sample c.args.n) [])) c.from_residual-in_err-summary.result _ c.from_residual-in_err-summary.ensures.1
    (sample_refused c.args.n _ _ c.in_ok-document.document c.in_ok-net.net _ c.requires c.in_ok-sample.ensures c.in_ok-bytes.ensures.exact c.as_bytes.ensures.value c.in_ok-document.ensures.found c.in_ok-net.ensures.flat c.in_err-summary.ensures.refused)

pub returns-clause-text : goal.returns-clause-text
returns-clause-text c =
    sample_told c.args.n _ _ c.in_ok-document.document c.in_ok-net.net c.in_ok-summary.summary _ c.requires c.in_ok-sample.ensures c.in_ok-bytes.ensures.exact c.as_bytes.ensures.value c.in_ok-document.ensures.found c.in_ok-net.ensures.flat c.in_ok-summary.ensures.told c.in_ok-sample_text.ensures
