use Rattle.cert_make.proofs.PlaceTrees.{has_certificate}
use Rattle.cert_make.proofs.laws.commoner_nets_have_a_certificate.Goals as goal

pub returns : goal.returns
returns c = has_certificate
