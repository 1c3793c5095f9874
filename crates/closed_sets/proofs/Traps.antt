-- Turning every arc round exchanges inputs and outputs, and so traps and siphons, with all that is defined by
-- them.
use Rattle.std.proofs.Common.{ℕ, Bool}
use Rattle.net_values.specs.Net.{Net, reversed}
use Rattle.closed_sets.specs.Growth.{GrowsWhole, whole, more, TrapGrowsWhole, whole_trap, more_trap, TrapsAreSiphonsReversed}

turned_to_siphon : (net : Net) (S A : ℕ → Bool) → TrapGrowsWhole net S A → GrowsWhole (reversed net) S A
turned_to_siphon net S A (whole_trap closed within) = whole closed within
turned_to_siphon net S A (more_trap t p opens first grows) = more t p opens first (turned_to_siphon net S _ grows)

turned_to_trap : (net : Net) (S A : ℕ → Bool) → GrowsWhole (reversed net) S A → TrapGrowsWhole net S A
turned_to_trap net S A (whole closed within) = whole_trap closed within
turned_to_trap net S A (more t p opens first grows) = more_trap t p opens first (turned_to_trap net S _ grows)

pub traps_reversed : (net : Net) (S : ℕ → Bool) → TrapsAreSiphonsReversed net S
traps_reversed net S = record {
  trap = (λ trap. trap, λ siphon. siphon);
  minimal = (
    λ minimal. record { siphon = minimal.trap; nonempty = minimal.nonempty; least = minimal.least },
    λ minimal. record { trap = minimal.siphon; nonempty = minimal.nonempty; least = minimal.least },
  );
  grown = (
    λ grown. record { siphon = grown.trap; lowest = grown.lowest; first = grown.first; grows = turned_to_siphon net S _ grown.grows },
    λ grown. record { trap = grown.siphon; lowest = grown.lowest; first = grown.first; grows = turned_to_trap net S _ grown.grows },
  );
}
