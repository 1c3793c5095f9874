-- A place is taken out of a siphon, while the places of another set have to stay.
use Rattle.std.specs.Prelude.{◌≡◌, ℕ, ◌<◌, List, Bool, false, IsTrue, slice_set}
use Rattle.net_values.specs.Net.{Net}
use Rattle.net_values.specs.PlaceSets.{has}
use Rattle.closed_sets.specs.ClosedSets.{IsSiphon, IsWithin, IsGreatestSiphon}

-- the greatest siphon in the old set without the place is left, with each place of the other set that was there
pub record KeepsWithout (net : Net) (others : List Bool) (p : ℕ) (old new : List Bool) : Type 0 where
  pub greatest : IsGreatestSiphon net (has (slice_set old p false)) (has new)
  pub kept : (q : ℕ) → IsTrue (has others q) → has new q ≡ has (slice_set old p false) q

-- no siphon in the old set without the place has some place of the other set that is there
pub record LosesWithout (net : Net) (others : List Bool) (p : ℕ) (old : List Bool) : Type 0 where
  pub place : ℕ
  pub below : place < net.places
  pub kept : IsTrue (has others place)
  pub lost : (S : ℕ → Bool) → IsSiphon net S → IsWithin net S (has (slice_set old p false)) → S place ≡ false
