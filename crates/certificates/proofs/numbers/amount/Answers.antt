use Rattle.std.proofs.Common.{rules, ◌≡◌, ap, ◌^◌, Some, arith}
use Rattle.std.specs.Prelude.{pos}
use Rattle.std.specs.Option.{option_map}
use Rattle.certificates.specs.Lines.{amount_in}
use Rattle.certificates.proofs.DecimalTexts.{number_read}
use Rattle.certificates.proofs.numbers.amount.Goals as goal

pub returns-in-Some : goal.returns-in-Some
returns-in-Some c =
    let value : amount_in c.args.least c.args.text.now ≡ Some (pos c.in-Some.amount) = ap (option_map pos) (number_read c.args.least (2 ^ 127) c.in-Some.amount c.args.text.now (omega arith) c.in-Some.ensures.1 (omega arith) (omega arith)) in
    search (rules, value)
