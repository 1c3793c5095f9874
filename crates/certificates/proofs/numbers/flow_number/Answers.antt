use Rattle.std.proofs.Common.{sym, ◌^◌, arith}
use Rattle.certificates.proofs.DecimalTexts.{number_read}
use Rattle.certificates.proofs.numbers.flow_number.Goals as goal

pub returns-in-Some : goal.returns-in-Some
returns-in-Some c = sym (number_read 1 (2 ^ 32) c.in-Some.flow c.args.text.now (omega arith) c.in-Some.ensures.1 (omega arith) (omega arith))
