-- Minimal siphons and traps as lists of truth values, which tell for each place of the net whether it is in.
use Rattle.std.specs.Prelude.{◌≡◌, ℕ, List, Bool, length, Any}
use Rattle.std.specs.Cmp.Lexicographic.{slice_cmp}
use Rattle.std.specs.Ordering.{bool_cmp}
use Rattle.net_values.specs.Net.{Net}
use Rattle.net_values.specs.PlaceSets.{has}
use Rattle.net_values.specs.TheList.{IsTheList}
use Rattle.closed_sets.specs.ClosedSets.{IsSiphon, IsWithin, IsNonempty, IsMinimalSiphon, IsMinimalTrap}

-- a minimal siphon of the net
pub record IsMinimalSet (net : Net) (set : List Bool) : Type 0 where
  pub size : length set ≡ net.places
  pub minimal : IsMinimalSiphon net (has set)

-- a minimal trap of the net
pub record IsMinimalTrapSet (net : Net) (set : List Bool) : Type 0 where
  pub size : length set ≡ net.places
  pub minimal : IsMinimalTrap net (has set)

-- every nonempty siphon contains a listed set
abbrev pub CoversSiphons : Net → List (List Bool) → Type 0
CoversSiphons net list = (S : ℕ → Bool) → IsSiphon net S → IsNonempty net S → Any (λ set. IsWithin net (has set) S) list

-- the list of all minimal siphons has one in every nonempty siphon
abbrev pub MinimalSetsCover : Net → Type 0
MinimalSetsCover net = (list : List (List Bool)) → IsTheList (slice_cmp bool_cmp) (IsMinimalSet net) list → CoversSiphons net list
