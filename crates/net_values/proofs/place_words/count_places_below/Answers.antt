use Rattle.std.proofs.Common.{arith}
use Rattle.net_values.proofs.PlaceCounts.{below_counted}
use Rattle.net_values.proofs.place_words.count_places_below.Goals as goal

pub returns : goal.returns
returns c =
    let words = c.args.words.now in
    let p = c.args.p in
    let low = c.with_low_bits-last.result in
    let all = below_counted words p low (λ j below word. c.with_low_bits-last.ensures.inside j below word) (λ j above word. c.with_low_bits-last.ensures.outside j above word) in
    let before = c.count_in_whole_words.ensures.value in
    let last = c.count_bits.ensures.value in
    omega arith
