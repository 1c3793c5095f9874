use Rattle.cert_check.proofs.Claims.{true_claim, excludes_dead}
use Rattle.cert_check.proofs.laws.accepted_claims_are_true.Goals as goal

pub returns : goal.returns
returns c net certificate well accepted = (true_claim net certificate well accepted, excludes_dead net certificate well accepted)
