use Rattle.std.proofs.Common.{sym, arith}
use Rattle.certificates.proofs.DecimalTexts.{number_read}
use Rattle.certificates.proofs.numbers.place.Goals as goal

pub returns-in-Some-clause-value : goal.returns-in-Some-clause-value
returns-in-Some-clause-value c = sym (number_read 0 2048 c.in-Some.place c.args.text.now (omega arith) c.in-Some.ensures.1 (omega arith) (omega arith))
