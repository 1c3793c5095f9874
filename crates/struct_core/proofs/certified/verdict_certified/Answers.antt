-- The certificate of the verdict, or the limit that is passed.
use Rattle.struct_core.proofs.Certifying.{limit_passed, verdict_made, is_verdict}
use Rattle.struct_core.proofs.certified.verdict_certified.Goals as goal

pub returns-in_err-siphons-clause-refused : goal.returns-in_err-siphons-clause-refused
returns-in_err-siphons-clause-refused c = limit_passed _ _ _ c.from_residual.result _ c.from_residual.ensures.1 c.in_err-siphons.ensures.refused

pub returns-in_err-certificate-clause-refused : goal.returns-in_err-certificate-clause-refused
returns-in_err-certificate-clause-refused c =
    limit_passed _ _ _ c.from_residual-in_err-certificate.result _ c.from_residual-in_err-certificate.ensures.1 c.in_err-certificate.ensures.refused

pub returns-clause-text : goal.returns-clause-text
returns-clause-text c =
    verdict_made _ _ _ _ _ _ c.in_ok-siphons.ensures.few (is_verdict _ _ _ c.in_ok-siphons.ensures.list c.in_ok-verdict.ensures.exact c.in_ok-verdict.ensures.first) c.in_ok-certificate.ensures.made c.in_ok-certified_text.ensures
