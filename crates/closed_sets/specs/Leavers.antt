-- A look at some transitions sets right whether each is one that takes from a set of places and gives nothing back.
use Rattle.std.specs.Prelude.{◌≡◌, ◌⊎◌, ℕ, ◌<◌, ◌==◌, List, Bool, false}
use Rattle.std.specs.List.{list_any}
use Rattle.net_values.specs.Net.{Net}
use Rattle.net_values.specs.PlaceSets.{has}
use Rattle.closed_sets.specs.Growth.{is_leaving}

-- the transition was looked at
pub record IsSetRight (net : Net) (set new : List Bool) (t : ℕ) : Type 0 where
  pub below : t < net.transitions
  pub right : has new t ≡ is_leaving net (has set) t

-- it wasn't, and is in the new set as in the old one
pub record IsLeftAlone (transitions : List ℕ) (old new : List Bool) (t : ℕ) : Type 0 where
  pub unlisted : list_any (λ (u : ℕ). u == t) transitions ≡ false
  pub same : has new t ≡ has old t

abbrev pub AreSetRight : Net → List ℕ → List Bool → List Bool → List Bool → Type 0
AreSetRight net transitions set old new = (t : ℕ) → IsSetRight net set new t ⊎ IsLeftAlone transitions old new t
