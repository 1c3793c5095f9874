use Rattle.std.proofs.Common.{w64, arith}
use Rattle.std.proofs.lemmas.Nat.Bits.{bit_at-trailing_zeros}
use Rattle.net_values.proofs.place_words.lowest_bit.Goals as goal

pub returns : goal.returns
returns c = let lowest = bit_at-trailing_zeros w64 c.args.word c.requires (omega arith) in record { below = lowest.0; here = lowest.1; lowest = lowest.2 }
