use Rattle.std.proofs.Common.{◌∙◌, ℕ, List, Bool, ap, length, arith}
use Rattle.net_values.specs.PlaceSets.{members_below}
use Rattle.net_values.specs.PlaceWords.{count_under, word_has}
use Rattle.net_values.proofs.PlaceCounts.{set_counted}
use Rattle.net_values.proofs.PlaceWords.{place_below}
use Rattle.net_values.proofs.place_set.PlaceSet.count_below.Goals as goal

pub count_places_below-requires-clause-within : goal.count_places_below-requires-clause-within
count_places_below-requires-clause-within c =
    let read = ap length c.as_slice.ensures.value in
    omega (arith, place_below c.self.inside.words.items c.self.inside.size c.args.p c.args.self.now c.self.invariant c.self.view_is c.requires)

pub returns : goal.returns
returns c =
    c.count_places_below.ensures
    ∙ ap (λ (words : List ℕ). count_under (word_has words) c.args.p) c.as_slice.ensures.value
    ∙ set_counted c.self.inside.words.items c.self.inside.size c.args.p c.self.invariant
    ∙ ap (λ (set : List Bool). members_below set c.args.p) c.self.view_is
