use Rattle.std.proofs.Common.{◌≡◌, ℕ, List, sym, subst, slice_index}
use Rattle.net_values.specs.PlaceSets.{IsEmpty}
use Rattle.net_values.proofs.PlaceWords.{zero_empty, empty_zero}
use Rattle.net_values.proofs.place_set.PlaceSet.is_empty.Goals as goal

abbrev AreZero : List ℕ → Type 0
AreZero words = (k : ℕ) → slice_index words k ≡ 0

pub returns : goal.returns
returns c = (
  λ yes. subst IsEmpty c.self.view_is (zero_empty c.self.inside.words.items c.self.inside.size c.self.invariant (subst AreZero c.as_slice.ensures.value (c.are_zero.ensures.0 yes))),
  λ none. c.are_zero.ensures.1 (subst AreZero (sym c.as_slice.ensures.value) (empty_zero c.self.inside.words.items c.self.inside.size c.self.invariant (subst IsEmpty (sym c.self.view_is) none))),
)
