use Rattle.std.proofs.Common.{◌≡◌, ◌∙◌, refl, ◌/◌, ap, map, rules, arith}
use Rattle.std.proofs.lemmas.List.{length-map}
use Rattle.net_values.proofs.PackedPlaces.{stored, shown, held, held_room}
use Rattle.net_values.proofs.Divided.{divided_kept, divided_by_one}
use Rattle.net_values.proofs.PlaceUnions.{whole_words}
use Rattle.net_values.proofs.vector.Vector.divide.Goals as goal

pub invariant_of-self : goal.invariant_of-self
invariant_of-self c =
    let divided = divided_kept c.args.divisor c.requires.positive _ _ _ c.requires.least (held _ _ _ _ c.self.invariant c.self.view_is) in
    let back = whole_words c.divide_all.new.numbers c.self.inside.numbers.items c.self.inside.numbers.len (search rules) ∙ c.divide_all.ensures ∙ ap (map (λ entry. entry / c.args.divisor)) c.as_mut_slice.ensures.value in
    let room = held_room _ _ _ _ c.self.invariant c.self.view_is in
    stored _ _ _ _ _ refl back divided _ (omega (arith, length-map c.args.self.now (λ entry. entry / c.args.divisor)))

pub returns-then-divisor-gt1 : goal.returns-then-divisor-gt1
returns-then-divisor-gt1 c =
    let divided = divided_kept c.args.divisor c.requires.positive _ _ _ c.requires.least (held _ _ _ _ c.self.invariant c.self.view_is) in
    let back = whole_words c.divide_all.new.numbers c.self.inside.numbers.items c.self.inside.numbers.len (search rules) ∙ c.divide_all.ensures ∙ ap (map (λ entry. entry / c.args.divisor)) c.as_mut_slice.ensures.value in
    shown _ _ _ _ _ refl back divided

pub returns-else-divisor-gt1 : goal.returns-else-divisor-gt1
returns-else-divisor-gt1 c = let one : c.args.divisor ≡ 1 = omega (arith, c.requires.positive, c.if-divisor-gt1.false) in divided_by_one c.args.self.now c.args.divisor one
