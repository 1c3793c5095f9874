use Rattle.struct_core.proofs.MadeCertificates.{made_are_accepted}
use Rattle.struct_core.proofs.laws.made_certificates_are_accepted.Goals as goal

pub returns : goal.returns
returns c = made_are_accepted
