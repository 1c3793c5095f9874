use Rattle.std.proofs.Common.{w64, arith}
use Rattle.std.specs.Int.{bit_not}
use Rattle.std.proofs.lemmas.Nat.Bits.{bit_at_and, bit_at_not, bit_at-lt}
use Rattle.net_values.proofs.PlaceFlips.{turned_bit, cut_bit}
use Rattle.net_values.proofs.place_words.flipped.Goals as goal

pub returns-clause-inside : goal.returns-clause-inside
returns-clause-inside c = λ i under word.
    turned_bit _ _ _ _ (bit_at_and (bit_not w64 c.args.word) c.low_bits.result i) (bit_at_not w64 c.args.word i (omega arith) word) (c.low_bits.ensures.inside i under word) (bit_at-lt c.args.word i)

pub returns-clause-outside : goal.returns-clause-outside
returns-clause-outside c = λ i above word. cut_bit _ _ _ (bit_at_and (bit_not w64 c.args.word) c.low_bits.result i) (c.low_bits.ensures.outside i above word)
