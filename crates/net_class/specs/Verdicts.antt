-- Commoner's verdict on a net, by the list of its minimal siphons.
use Rattle.std.specs.Prelude.{◌≡◌, ℕ, ◌<◌, List, [], Bool, length, slice_index_or}
use Rattle.net_values.specs.Net.{Net}
use Rattle.net_values.specs.PlaceSets.{has}
use Rattle.closed_sets.specs.Commoner.{HasMarkedTrap}
use Rattle.net_class.specs.declared.verdict.Verdict.{Verdict}
use Rattle.net_class.specs.declared.verdict.Verdict.TheVariants.{Yes, No}

-- the siphon is the first listed one that contains no trap marked at the initial marking
pub record IsFirstWithoutTrap (net : Net) (siphons : List (List Bool)) (siphon : List Bool) : Type 0 where
  pub index : ℕ
  pub below : index < length siphons
  pub listed : slice_index_or siphons index [] ≡ siphon
  pub lacks : HasMarkedTrap net (has siphon) → ⊥
  pub earlier : (k : ℕ) → k < index → HasMarkedTrap net (has (slice_index_or siphons k []))

-- a no names the first listed siphon that contains no marked trap
abbrev pub NamesFirst : Net → List (List Bool) → Verdict → Type 0
NamesFirst net siphons Yes = Unit {0}
NamesFirst net siphons (No siphon) = IsFirstWithoutTrap net siphons siphon
