use Rattle.std.proofs.Common.{◌/◌, ◌%◌, ◌==◌, ◌∙◌, ℕ, List, Bool, sym, ap, arith}
use Rattle.std.specs.Int.{bit_at}
use Rattle.std.proofs.lemmas.List.{get_or_read}
use Rattle.net_values.specs.PlaceSets.{has}
use Rattle.net_values.proofs.PlaceWords.{has_member, place_below}
use Rattle.net_values.proofs.place_set.PlaceSet.contains.Goals as goal

pub index-requires : goal.index-requires
index-requires c = omega (arith, c.self.inside.words.ok.0, place_below c.self.inside.words.items c.self.inside.size c.args.p c.args.self.now c.self.invariant c.self.view_is c.requires)

pub returns : goal.returns
returns c =
    let words = c.self.inside.words.items in
    let p = c.args.p in
    let under = place_below words c.self.inside.size p c.args.self.now c.self.invariant c.self.view_is c.requires in
    c.has_bit.ensures
    ∙ ap (λ (x : ℕ). bit_at x (p % 64) == 1) (get_or_read words (p / 64) c.index.result.now under c.index.ensures 0)
    ∙ sym (has_member words c.self.inside.size p c.self.invariant)
    ∙ ap (λ (set : List Bool). has set p) c.self.view_is
