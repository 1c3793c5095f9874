-- The step of a growth. The lowest open transition and the lowest of its input places in the siphon are
-- determined, so the growth goes on in one way only, and is over where the set is a siphon.
use Rattle.std.proofs.Common.{◌≡◌, subst, ℕ, Bool}
use Rattle.std.proofs.lemmas.Bool.{both_ways}
use Rattle.net_values.specs.Net.{Net}
use Rattle.closed_sets.specs.ClosedSets.{IsSiphon, IsWithin}
use Rattle.closed_sets.specs.Growth.{IsFirst, is_open, is_input_in, with_place, GrowsWhole, whole, more}
use Rattle.closed_sets.proofs.Firsts.{first_same}
use Rattle.closed_sets.proofs.Passes.{closed_from_siphon}

-- the growth from an equal set
pub same_growth : (net : Net) (S A A' : ℕ → Bool) → ((p : ℕ) → A p ≡ A' p) → GrowsWhole net S A → GrowsWhole net S A'
same_growth net S A A' same grows = subst (λ (B : ℕ → Bool). GrowsWhole net S B) (λ i p. same p i) grows

-- the growth from a siphon is over
pub growth_over : (net : Net) (S A : ℕ → Bool) → IsSiphon net A → GrowsWhole net S A → IsWithin net S A
growth_over net S A siphon (whole closed within) = within
growth_over net S A siphon (more t p opens first grows) = absurd (both_ways _ (closed_from_siphon net A siphon t opens.below) opens.passes)

-- the growth from a set with an open transition goes on with its lowest input place in the siphon
pub growth_next : (net : Net) (S A : ℕ → Bool) (t p : ℕ) → IsFirst net.transitions (is_open net A) t → IsFirst net.places (is_input_in net S t) p → GrowsWhole net S A → GrowsWhole net S (with_place A p)
growth_next net S A t p opens first (whole closed within) = absurd (both_ways _ (closed_from_siphon net A closed t opens.below) opens.passes)
growth_next net S A t p opens first (more u q opens' first' grows) =
    let same : u ≡ t = first_same net.transitions (is_open net A) u t opens' opens in
    let there : q ≡ p = first_same net.places (is_input_in net S t) q p (subst (λ (v : ℕ). IsFirst net.places (is_input_in net S v) q) same first') first in
    subst (λ (r : ℕ). GrowsWhole net S (with_place A r)) there grows
