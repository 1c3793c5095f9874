-- Each set has a greatest siphon in it. While a transition is open, no siphon in the set has one of its output
-- places, so they can be left out, and fewer places are left; where none is open the set is a siphon.
use Rattle.std.proofs.Common.{◌≡◌, ap, ℕ, zero, suc, ◌<◌, ◌&&◌, Bool, false, IsTrue, not, ltb, inl, inr, arith}
use Rattle.std.proofs.lemmas.Bool.{ltb-true, lt-ltb, and_from, and_parts, both_ways, cases_Bool, not-true, not_from_false}
use Rattle.net_values.specs.Net.{Net}
use Rattle.closed_sets.specs.ClosedSets.{has_input_in, has_output_in, IsSiphon, IsWithin, IsGreatestSiphon, EachSetHasGreatest, OnePlaceLess}
use Rattle.closed_sets.specs.Growth.{is_open}
use Rattle.closed_sets.proofs.Below.{pair_at, pair_from}
use Rattle.closed_sets.proofs.Firsts.{first_of}
use Rattle.closed_sets.proofs.Outside.{outside, outside_lt}
use Rattle.closed_sets.proofs.Passes.{siphon_from_closed}

module _ (net : Net) (U : ℕ → Bool) (t : ℕ) (below : t < net.transitions) (opens : IsTrue (is_open net U t)) where
  -- the set without the output places of the transition
  abbrev rest : ℕ → Bool
  rest p = U p && not (ltb 0 (net.post p t))

  keeps_siphons : (S : ℕ → Bool) → IsSiphon net S → IsWithin net S U → IsWithin net S rest
  keeps_siphons S siphon within p here member =
      and_from (U p) _ (within p here member) (not_from_false _ (elim (cases_Bool (ltb 0 (net.post p t))) [
        | inl gives ↦
            let takes = pair_from net.places S (λ q. net.pre q t) (siphon t below (pair_at net.places S (λ q. net.post q t) p here member (ltb-true 0 (net.post p t) gives))) in
            absurd (both_ways (has_input_in net U t) (not-true _ (and_parts (has_output_in net U t) _ opens).1) (pair_at net.places U (λ q. net.pre q t) takes.0 takes.1 (within takes.0 takes.1 takes.2) takes.3))
        | inr none ↦ none
      ]))

  smaller : outside net.places (λ p. not (rest p)) < outside net.places (λ p. not (U p))
  smaller =
      let gives = pair_from net.places U (λ p. net.post p t) (and_parts (has_output_in net U t) _ opens).0 in
      let left : rest gives.0 ≡ false = elim (cases_Bool (rest gives.0)) [
        | inl member ↦ absurd (both_ways (ltb 0 (net.post gives.0 t)) (not-true _ (and_parts (U gives.0) _ member).1) (lt-ltb 0 (net.post gives.0 t) gives.3))
        | inr none ↦ none
      ] in
      outside_lt net.places (λ p. not (U p)) (λ p. not (rest p)) gives.0
      (λ k here lacks. not_from_false (rest k) (elim (cases_Bool (rest k)) [
        | inl member ↦ absurd (both_ways (U k) (not-true (U k) lacks) (and_parts (U k) _ member).0)
        | inr none ↦ none
      ]))
      gives.1 (ap not gives.2) (not_from_false _ left)

greatest_in : (steps : ℕ) (net : Net) (U : ℕ → Bool) → outside net.places (λ p. not (U p)) < steps → (G : ℕ → Bool) × IsGreatestSiphon net U G
greatest_in zero net U few = absurd (omega arith)
greatest_in (suc steps) net U few =
    elim (first_of net.transitions (is_open net U)) [
      | inr none ↦ (U, record { siphon = siphon_from_closed net U none; within = λ p below member. member; greatest = λ S siphon within. within })
      | inl opens ↦
          let t = opens.0 in
          let found = greatest_in steps net (rest net U t opens.1.below opens.1.passes) (omega (arith, smaller net U t opens.1.below opens.1.passes)) in (
            found.0,
            record {
              siphon = found.1.siphon;
              within = λ p here member. (and_parts (U p) _ (found.1.within p here member)).0;
              greatest = λ S siphon within. found.1.greatest S siphon (keeps_siphons net U t opens.1.below opens.1.passes S siphon within);
            },
          )
    ]

pub greatest_there : (net : Net) → EachSetHasGreatest net
greatest_there net U = greatest_in (suc (outside net.places (λ p. not (U p)))) net U (omega arith)

-- what is left of the greatest siphon where a place is taken out of the set
pub one_place_less : (net : Net) → OnePlaceLess net
one_place_less net U G H p greatest left = record {
  siphon = left.siphon;
  within = λ q here member.
      let parts = and_parts (G q) _ (left.within q here member) in
      and_from (U q) _ (greatest.within q here parts.0) parts.1;
  greatest = λ S siphon within. left.greatest S siphon (λ q here member.
      let parts = and_parts (U q) _ (within q here member) in
      and_from (G q) _ (greatest.greatest S siphon (λ r below inside. (and_parts (U r) _ (within r below inside)).0) q here member) parts.1);
}
