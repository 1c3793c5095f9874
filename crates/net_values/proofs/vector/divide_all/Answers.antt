use Rattle.std.proofs.Common.{◌/◌, get_or, rules}
use Rattle.std.proofs.lemmas.List.{get_or_default}
use Rattle.std.proofs.lemmas.List.Edits.{map_over_more}
use Rattle.net_values.proofs.vector.divide_all.Goals as goal

pub loop-number-preserved : goal.loop-number-preserved
loop-number-preserved c =
    let i = c.loop-number.number-index in
    let now = c.loop-number.numbers in
    map_over_more (λ number. number / c.args.divisor) c.args.numbers.now now i (get_or now i 0) c.loop-number-test.true c.loop-number.invariant (get_or_default now i 0 (get_or now i 0) (search rules))
