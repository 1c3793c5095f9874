use Rattle.cert_check.proofs.Decisions.{accepted_or_false}
use Rattle.cert_check.proofs.laws.accepted_or_a_false_line.Goals as goal

pub returns : goal.returns
returns c = accepted_or_false
