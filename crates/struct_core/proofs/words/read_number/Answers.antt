-- A number outside the range is the only one that the word spells.
use Rattle.std.proofs.Common.{rules, ◌≡◌, ◌<◌, ◌^◌, arith, sym, ◌∙◌}
use Rattle.certificates.proofs.DecimalTexts.{decimal_one}
use Rattle.struct_core.proofs.words.read_number.Goals as goal
use Rattle.struct_core.proofs.words.read_number.Goals.{else-from-number-via-then-from-number+else-number-from, else-from-number-via-else-from-number}

pub returns-else-from-number-clause-none : goal.returns-else-from-number-clause-none
returns-else-from-number-clause-none c = λ number is.
    let fits : c.in_ok-number.number < 2 ^ 128 = search (rules, c.read_decimal.type_inv, c.in_ok-number.was) in
    let small : number < 2 ^ 128 = omega (arith, is.high) in
    let same : c.in_ok-number.number ≡ number = decimal_one _ _ fits small (sym c.in_ok-number.ensures.read ∙ is.spelled) in
    elim c.else-from-number.branch [
      | else-from-number-via-then-from-number+else-number-from w ↦ omega (arith, same, is.low, is.high)
      | else-from-number-via-else-from-number w ↦ omega (arith, same, is.low, is.high)
    ]
