use Rattle.std.proofs.Common.{Bool, sym, subst, ◌*◌, ◌+◌}
use Rattle.net_values.specs.PlaceWords.{IsFirstDifference}
use Rattle.net_values.proofs.PlaceOrder.{difference_at}
use Rattle.net_values.proofs.place_words.first_difference.Goals as goal

pub returns-then-word-other : goal.returns-then-word-other
returns-then-word-other c =
    let p = c.loop-k.k * 64 + c.lowest_bit.result in
    (p, subst (λ (b : Bool). IsFirstDifference c.args.words.now c.args.others.now p b) (sym c.has_bit.ensures) (difference_at c.args.words.now c.args.others.now c.loop-k.k c.lowest_bit.result c.lowest_bit.ensures c.loop-k.invariant))
