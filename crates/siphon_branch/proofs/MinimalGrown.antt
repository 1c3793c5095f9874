-- A set in a siphon grows to a whole siphon in it: while a transition is open it has an input place in the
-- siphon, and each step leaves one place less outside. A minimal siphon contains what grows from its lowest
-- place, and so is grown.
use Rattle.std.proofs.Common.{◌≡◌, refl, sym, subst, ℕ, zero, suc, ◌<◌, ◌==◌, Bool, false, IsTrue, ltb, inl, inr, arith}
use Rattle.std.proofs.lemmas.Bool.{or_cases, or_left, or_right, eq-eqb, eqb-true, ltb-true, and_from, and_parts, both_ways, cases_Bool, not-true}
use Rattle.net_values.specs.Net.{Net}
use Rattle.closed_sets.specs.ClosedSets.{has_input_in, has_output_in, IsSiphon, IsWithin, IsMinimalSiphon}
use Rattle.closed_sets.specs.Growth.{is_open, is_input_in, with_place, only_place, GrowsWhole, whole, more, IsGrown}
use Rattle.closed_sets.proofs.Below.{any_at, any_from, pair_at, pair_from}
use Rattle.closed_sets.proofs.Firsts.{first_of}
use Rattle.closed_sets.proofs.Outside.{outside, outside_lt}
use Rattle.closed_sets.proofs.Passes.{siphon_from_closed}

pub record GrowsIn (net : Net) (U A : ℕ → Bool) : Type 0 where
  pub S : ℕ → Bool
  pub siphon : IsSiphon net S
  pub contains : IsWithin net A S
  pub within : IsWithin net S U
  pub grows : GrowsWhole net S A

pub grows_in : (steps : ℕ) (net : Net) (U A : ℕ → Bool) → IsSiphon net U → IsWithin net A U → outside net.places A < steps → GrowsIn net U A
grows_in zero net U A siphon within few = absurd (omega arith)
grows_in (suc steps) net U A siphon within few =
    elim (first_of net.transitions (is_open net A)) [
      | inr none ↦
          let closed = siphon_from_closed net A none in
          record { S = A; siphon = closed; contains = λ p below member. member; within = within; grows = whole closed (λ p below member. member) }
      | inl opens ↦
          let t = opens.0 in
          let gives = pair_from net.places A (λ p. net.post p t) (and_parts (has_output_in net A t) _ opens.1.passes).0 in
          let takes = siphon t opens.1.below (pair_at net.places U (λ p. net.post p t) gives.0 gives.1 (within gives.0 gives.1 gives.2) gives.3) in
          elim (first_of net.places (is_input_in net U t)) [
            | inr none ↦ let at = any_from net.places (is_input_in net U t) takes in absurd (both_ways _ (none at.0 at.1) at.2)
            | inl input ↦
                let p = input.0 in
                let member : IsTrue (U p) = (and_parts (U p) (ltb 0 (net.pre p t)) input.1.passes).0 in
                let weighs : IsTrue (ltb 0 (net.pre p t)) = (and_parts (U p) (ltb 0 (net.pre p t)) input.1.passes).1 in
                let out : A p ≡ false = elim (cases_Bool (A p)) [
                  | inl inside ↦ absurd (both_ways (has_input_in net A t) (not-true _ (and_parts (has_output_in net A t) _ opens.1.passes).1) (pair_at net.places A (λ q. net.pre q t) p input.1.below inside (ltb-true 0 (net.pre p t) weighs)))
                  | inr fails ↦ fails
                ] in
                let less = outside_lt net.places A (with_place A p) p (λ k _ inside. or_right (k == p) (A k) inside) input.1.below out (or_left (p == p) (A p) (eq-eqb p p refl)) in
                let rest = grows_in steps net U (with_place A p) siphon
                (λ q below inside. elim (or_cases (q == p) (A q) inside) [
                  | inl same ↦ subst (λ (r : ℕ). IsTrue (U r)) (sym (eqb-true q p same)) member
                  | inr old ↦ within q below old
                ]) (omega arith) in
                record {
                  S = rest.S;
                  siphon = rest.siphon;
                  contains = λ q below inside. rest.contains q below (or_right (q == p) (A q) inside);
                  within = rest.within;
                  grows = more t p opens.1 record {
                    below = input.1.below;
                    passes = and_from (rest.S p) (ltb 0 (net.pre p t)) (rest.contains p input.1.below (or_left (p == p) (A p) (eq-eqb p p refl))) weighs;
                    before = λ k before. elim (cases_Bool (is_input_in net rest.S t k)) [
                      | inl passes ↦
                          let inside = rest.within k (omega (arith, input.1.below)) (and_parts (rest.S k) (ltb 0 (net.pre k t)) passes).0 in
                          absurd (both_ways _ (input.1.before k before) (and_from (U k) (ltb 0 (net.pre k t)) inside (and_parts (rest.S k) (ltb 0 (net.pre k t)) passes).1))
                      | inr fails ↦ fails
                    ];
                  } rest.grows;
                }
          ]
    ]

-- the growth within one siphon is that within another with the same places
pub growth_other : (net : Net) (S R A : ℕ → Bool) → IsWithin net S R → IsWithin net R S → GrowsWhole net R A → GrowsWhole net S A
growth_other net S R A within back (whole closed inside) = whole closed (λ p below member. inside p below (within p below member))
growth_other net S R A within back (more t p opens first grows) =
    more t p opens record {
      below = first.below;
      passes = and_from (S p) (ltb 0 (net.pre p t)) (back p first.below (and_parts (R p) _ first.passes).0) (and_parts (R p) _ first.passes).1;
      before = λ k before. elim (cases_Bool (is_input_in net S t k)) [
        | inl passes ↦
            let inside = within k (omega (arith, first.below)) (and_parts (S k) (ltb 0 (net.pre k t)) passes).0 in
            absurd (both_ways _ (first.before k before) (and_from (R k) (ltb 0 (net.pre k t)) inside (and_parts (S k) (ltb 0 (net.pre k t)) passes).1))
        | inr fails ↦ fails
      ];
    } (growth_other net S R (with_place A p) within back grows)

pub minimal_grown : (net : Net) (S : ℕ → Bool) → IsMinimalSiphon net S → IsGrown net S
minimal_grown net S minimal =
    elim (first_of net.places S) [
      | inr none ↦ let at = any_from net.places S minimal.nonempty in absurd (both_ways _ (none at.0 at.1) at.2)
      | inl first ↦
          let p = first.0 in
          let grown = grows_in (suc (outside net.places (only_place p))) net S (only_place p) minimal.siphon
          (λ q below same. subst (λ (r : ℕ). IsTrue (S r)) (sym (eqb-true q p same)) first.1.passes) (omega arith) in
          let some = any_at net.places grown.S p first.1.below (grown.contains p first.1.below (eq-eqb p p refl)) in
          record {
            siphon = minimal.siphon;
            lowest = p;
            first = first.1;
            grows = growth_other net S grown.S (only_place p) (minimal.least grown.S grown.siphon some grown.within) grown.within grown.grows;
          }
    ]
