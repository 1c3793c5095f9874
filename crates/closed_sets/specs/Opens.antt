-- The transitions that are open at a set of places, as a set of their own.
use Rattle.std.specs.Prelude.{◌≡◌, ℕ, ◌<◌, ◌≤◌, List, Bool, false, length}
use Rattle.net_values.specs.Net.{Net}
use Rattle.net_values.specs.PlaceSets.{has}
use Rattle.closed_sets.specs.Growth.{is_leaving, is_open}

-- the transitions with an output place in the set and no input place in it
pub record AreOpen (net : Net) (set opens : List Bool) : Type 0 where
  pub size : length opens ≡ net.transitions
  pub exact : (t : ℕ) → t < net.transitions → has opens t ≡ is_open net (has set) t

-- the transitions with an input place in the set and no output place in it, in a set with room for all transitions
pub record AreLeaving (net : Net) (set leaving : List Bool) : Type 0 where
  pub room : net.transitions ≤ length leaving
  pub exact : (t : ℕ) → t < net.transitions → has leaving t ≡ is_leaving net (has set) t
  pub past : (t : ℕ) → net.transitions ≤ t → has leaving t ≡ false
