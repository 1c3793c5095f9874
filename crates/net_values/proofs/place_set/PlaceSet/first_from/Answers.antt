use Rattle.net_values.proofs.FirstPlaces.{first_in_set}
use Rattle.net_values.proofs.place_set.PlaceSet.first_from.Goals as goal

pub returns : goal.returns
returns c = first_in_set c.self.inside.words.items c.as_slice.result.now c.self.inside.size c.args.from c.args.self.now c.first_place_from.result c.self.invariant c.as_slice.ensures.value c.self.view_is c.first_place_from.ensures
