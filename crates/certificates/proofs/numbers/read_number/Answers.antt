-- A text is the decimal text of at most one number.
use Rattle.std.proofs.Common.{rules, arith, sym, ◌<◌, ◌^◌, ◌≡◌, None}
use Rattle.certificates.specs.Words.{number_in}
use Rattle.certificates.proofs.DecimalTexts.{number_none, number_outside, number_read}
use Rattle.certificates.proofs.numbers.read_number.Goals as goal
use Rattle.certificates.proofs.numbers.read_number.Goals.{else-least-number-via-then-least-number+else-number-limit, else-least-number-via-else-least-number}

pub returns-in_err-number-clause-value : goal.returns-in_err-number-clause-value
returns-in_err-number-clause-value c =
    let none : number_in c.args.least c.args.limit c.args.text.now ≡ None = number_none c.args.least c.args.limit c.args.text.now (λ n low below same. c.in_err-number.ensures.none n (omega (arith, below)) same) in
    search (rules, none)

pub returns-then-number-limit-clause-value : goal.returns-then-number-limit-clause-value
returns-then-number-limit-clause-value c =
    sym (number_read c.args.least c.args.limit c.in_ok-number.number c.args.text.now (omega arith) c.in_ok-number.ensures.read (omega arith) (omega arith))

pub returns-else-least-number-clause-value : goal.returns-else-least-number-clause-value
returns-else-least-number-clause-value c =
    let fits : c.in_ok-number.number < 2 ^ 128 = search rules in
    sym (number_outside c.args.least c.args.limit c.in_ok-number.number c.args.text.now fits (omega arith) c.in_ok-number.ensures.read (λ low below. elim c.else-least-number.branch [
      | else-least-number-via-then-least-number+else-number-limit w ↦ omega (arith, low, below)
      | else-least-number-via-else-least-number w ↦ omega (arith, low, below)
    ]))
