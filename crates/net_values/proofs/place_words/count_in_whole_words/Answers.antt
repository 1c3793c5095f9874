use Rattle.std.proofs.Common.{◌≡◌, slice_index, rules, arith}
use Rattle.net_values.specs.PlaceWords.{count_under, has_bit_at}
use Rattle.net_values.proofs.PlaceCounts.{whole_more}
use Rattle.net_values.proofs.place_words.count_in_whole_words.Goals as goal

pub loop-k-preserved : goal.loop-k-preserved
loop-k-preserved c =
    let words = c.args.words.now in
    let k = c.loop-k.k in
    let word : c.count_bits-count.result ≡ count_under (has_bit_at (slice_index words k)) 64 = search rules in
    let more = whole_more words k in
    let value = c.loop-k.invariant.value in
    let bound = c.loop-k.invariant.bound in
    let last = c.count_bits-count.ensures.bound in
    record { value = omega arith; bound = omega arith }
