-- Marked traps that were found, of which the check of a tree keeps one for a place.
use Rattle.std.specs.Prelude.{◌≡◌, ℕ, ◌<◌, IsTrue, length}
use Rattle.net_values.specs.Net.{Net}
use Rattle.net_values.specs.PlaceSets.{has}
use Rattle.closed_sets.specs.Commoner.{IsMarkedTrap}
use Rattle.cert_check.specs.declared.known_traps.KnownTraps.{KnownTraps}
use Rattle.cert_check.specs.Walks.{saved_at}

-- the parts are for this number of places
pub record HasRoomFor (places : ℕ) (traps : KnownTraps) : Type 0 where
  pub known : length traps.known ≡ places
  pub count : length traps.traps.items ≡ places
  pub each : (p : ℕ) → p < places → length (saved_at traps.traps.items p) ≡ places
  pub found : length traps.found ≡ places

-- what is known for a place is a marked trap
abbrev pub AreMarkedTraps : Net → KnownTraps → Type 0
AreMarkedTraps net traps = (p : ℕ) → p < net.places → IsTrue (has traps.known p) → IsMarkedTrap net (has (saved_at traps.traps.items p))
