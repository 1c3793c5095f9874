-- The only input place that a transition has in a set. A siphon in the set that has an output place of the transition has
-- that place.
use Rattle.std.specs.Prelude.{◌≡◌, ◌<◌, ℕ, List, Bool, IsTrue}
use Rattle.net_values.specs.Net.{Net}
use Rattle.net_values.specs.PlaceSets.{has}

-- the only input place that the transition has in the set
pub record IsLoneInput (net : Net) (set : List Bool) (t p : ℕ) : Type 0 where
  pub member : IsTrue (has set p)
  pub takes : 0 < net.pre p t
  pub only : (q : ℕ) → q < net.places → IsTrue (has set q) → 0 < net.pre q t → q ≡ p
