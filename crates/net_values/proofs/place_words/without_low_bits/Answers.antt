use Rattle.std.proofs.Common.{◌^◌, ◌<◌, rules}
use Rattle.std.specs.Int.{bit_at}
use Rattle.std.proofs.lemmas.Nat.Bits.{bit_at-lt}
use Rattle.net_values.proofs.PlaceWords.{lacking}
use Rattle.net_values.proofs.FirstPlaces.{kept_bit, cleared_bit}
use Rattle.net_values.proofs.place_words.without_low_bits.Goals as goal

pub returns-clause-inside : goal.returns-clause-inside
returns-clause-inside c = λ i under word.
    let narrow : c.low_bits.result < 2 ^ 64 = search rules in
    cleared_bit (bit_at c.args.word i) (bit_at c.low_bits.result i) _ (lacking c.args.word c.low_bits.result i narrow word) (c.low_bits.ensures.inside i under word) (bit_at-lt c.args.word i)

pub returns-clause-outside : goal.returns-clause-outside
returns-clause-outside c = λ i above word.
    let narrow : c.low_bits.result < 2 ^ 64 = search rules in
    kept_bit (bit_at c.args.word i) (bit_at c.low_bits.result i) _ (lacking c.args.word c.low_bits.result i narrow word) (c.low_bits.ensures.outside i above word) (bit_at-lt c.args.word i)
