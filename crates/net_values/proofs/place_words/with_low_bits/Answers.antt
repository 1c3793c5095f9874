use Rattle.std.proofs.Common.{arith}
use Rattle.std.proofs.lemmas.Nat.Bits.{bit_at-lt, bit_at_and}
use Rattle.net_values.proofs.place_words.with_low_bits.Goals as goal

pub returns-clause-inside : goal.returns-clause-inside
returns-clause-inside c = λ i under word. omega (arith, bit_at_and c.args.word c.low_bits.result i, c.low_bits.ensures.inside i under word, bit_at-lt c.args.word i)

pub returns-clause-outside : goal.returns-clause-outside
returns-clause-outside c = λ i above word. omega (arith, bit_at_and c.args.word c.low_bits.result i, c.low_bits.ensures.outside i above word)
