use Rattle.std.proofs.Common.{◌%◌, true, arith}
use Rattle.net_values.proofs.PlaceWords.{in_is, place_below, changed_words, changed_members}
use Rattle.net_values.proofs.place_set.PlaceSet.insert.Goals as goal

pub index-requires : goal.index-requires
index-requires c = omega (arith, c.self.inside.words.ok.0, place_below c.self.inside.words.items c.self.inside.size c.args.p c.args.self.now c.self.invariant c.self.view_is c.requires)

pub index_mut-requires : goal.index_mut-requires
index_mut-requires c = omega (arith, c.self.inside.words.ok.0, place_below c.self.inside.words.items c.self.inside.size c.args.p c.args.self.now c.self.invariant c.self.view_is c.requires)

pub invariant_of-self : goal.invariant_of-self
invariant_of-self c =
    changed_words _ c.self.inside.size c.args.p _ c.self.invariant c.self.view_is c.requires c.index.result.now c.with_bit.result true c.index.ensures (omega arith)
    (in_is c.with_bit.result (c.args.p % 64) c.with_bit.ensures.here) (λ i below. c.with_bit.ensures.elsewhere i)

pub returns : goal.returns
returns c =
    changed_members _ c.self.inside.size c.args.p _ c.self.invariant c.self.view_is c.requires c.index.result.now c.with_bit.result true c.index.ensures (omega arith)
    (in_is c.with_bit.result (c.args.p % 64) c.with_bit.ensures.here) (λ i below. c.with_bit.ensures.elsewhere i)
