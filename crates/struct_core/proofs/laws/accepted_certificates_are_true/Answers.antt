use Rattle.struct_core.proofs.CertificateLaws.{accepted_are_true}
use Rattle.struct_core.proofs.laws.accepted_certificates_are_true.Goals as goal

pub returns : goal.returns
returns c = accepted_are_true
