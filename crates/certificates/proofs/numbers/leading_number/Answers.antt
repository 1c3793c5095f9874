use Rattle.std.proofs.Common.{◌<◌, ◌∙◌, take, length, get_or, arith}
use Rattle.std.proofs.lemmas.List.{take_more}
use Rattle.certificates.proofs.ShortNumbers.{one_digit, digit_more}
use Rattle.certificates.proofs.numbers.leading_number.Goals as goal

pub loop-k-init : goal.loop-k-init
loop-k-init c =
    let low = c.in_ok-number.ensures.0 in
    (omega arith, take_more c.args.bytes.now 0 0 c.in-len1-up.len_at_least ∙ one_digit (get_or c.args.bytes.now 0 0) c.in_ok-number.number low c.in_ok-number.ensures.1)

pub loop-k-preserved : goal.loop-k-preserved
loop-k-preserved c =
    let low = c.in-Some.ensures.0 in
    let few = c.if-number-ge1000.false in
    let some = c.if-number-eq0.false in
    let within : c.loop-k.k < length c.args.bytes.now = omega arith in (
      omega arith,
      take_more c.args.bytes.now c.loop-k.k 0 within
          ∙ digit_more (take c.loop-k.k c.args.bytes.now) c.loop-k.number (get_or c.args.bytes.now c.loop-k.k 0) c.in-Some.unit (omega arith) (omega arith) low c.in-Some.ensures.1 c.loop-k.invariant.1,
    )
