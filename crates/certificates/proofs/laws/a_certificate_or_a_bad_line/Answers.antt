use Rattle.certificates.proofs.OneReading.{a_certificate_or_a_bad_line}
use Rattle.certificates.proofs.laws.a_certificate_or_a_bad_line.Goals as goal

pub returns : goal.returns
returns c = a_certificate_or_a_bad_line
