use Rattle.std.proofs.Common.{ℕ, ap, ◌∙◌, ◌-◌, ◌<◌, rules}
use Rattle.std.specs.Int.{bit_at}
use Rattle.std.proofs.lemmas.Nat.{one_shl}
use Rattle.std.proofs.lemmas.Nat.Bits.{bit_at_ones, bit_at_ones_above}
use Rattle.net_values.proofs.place_words.low_bits.Goals as goal

pub returns-then-count-lt64-clause-inside : goal.returns-then-count-lt64-clause-inside
returns-then-count-lt64-clause-inside c = λ i under word.
    let small : c.args.count < 64 = search rules in
    ap (λ (x : ℕ). bit_at (x - 1) i) (one_shl c.args.count 64 small) ∙ bit_at_ones c.args.count i under

pub returns-then-count-lt64-clause-outside : goal.returns-then-count-lt64-clause-outside
returns-then-count-lt64-clause-outside c = λ i above word.
    let small : c.args.count < 64 = search rules in
    ap (λ (x : ℕ). bit_at (x - 1) i) (one_shl c.args.count 64 small) ∙ bit_at_ones_above c.args.count i above

pub returns-else-count-lt64-clause-inside : goal.returns-else-count-lt64-clause-inside
returns-else-count-lt64-clause-inside c = λ i under word. bit_at_ones 64 i word
