use Rattle.certificates.proofs.OneReading.{one_reading}
use Rattle.certificates.proofs.laws.one_reading.Goals as goal

pub returns : goal.returns
returns c = one_reading
