-- Whether a set is a siphon, a minimal siphon or a grown one is decided: transitions and places are looked at
-- one after the other, the greatest siphon without a place is there, and a growth comes to its end.
use Rattle.std.proofs.Common.{◌≡◌, refl, sym, subst, ℕ, zero, suc, ◌<◌, ◌==◌, ◌&&◌, Bool, false, IsTrue, not, ltb, inl, inr, arith}
use Rattle.std.proofs.lemmas.Bool.{cases_Bool, and_from, and_parts, both_ways, or_cases, or_left, or_right, not_from_false, not-true, eq-eqb, eqb-true}
use Rattle.net_values.specs.Net.{Net}
use Rattle.closed_sets.specs.ClosedSets.{any_below, has_input_in, has_output_in, IsSiphon, IsWithin, IsMinimalSiphon, HasSiphonWithout}
use Rattle.closed_sets.specs.Growth.{IsFirst, is_open, is_input_in, with_place, only_place, GrowsWhole, whole, more, IsGrown}
use Rattle.closed_sets.proofs.Below.{any_at, any_from, none_at, pair_at, pair_from}
use Rattle.closed_sets.proofs.Firsts.{first_of, first_same}
use Rattle.closed_sets.proofs.GreatestSiphons.{greatest_there}
use Rattle.closed_sets.proofs.Outside.{outside, outside_lt}
use Rattle.closed_sets.proofs.Passes.{siphon_from_closed, closed_from_siphon}
use Rattle.closed_sets.proofs.SmallerSiphons.{minimal_from, minimal_without}
use Rattle.siphon_branch.proofs.AllSets.{Decided}
use Rattle.siphon_branch.proofs.Growths.{growth_over, growth_next}

pub decide_siphon : (net : Net) (S : ℕ → Bool) → Decided (IsSiphon net S)
decide_siphon net S =
    elim (first_of net.transitions (is_open net S)) [
      | inr none ↦ inl (siphon_from_closed net S none)
      | inl opens ↦ inr (λ siphon. both_ways (is_open net S opens.0) (closed_from_siphon net S siphon opens.0 opens.1.below) opens.1.passes)
    ]

pub decide_within : (net : Net) (S A : ℕ → Bool) → Decided (IsWithin net S A)
decide_within net S A =
    elim (cases_Bool (any_below net.places (λ p. S p && not (A p)))) [
      | inl some ↦
          let at = any_from net.places (λ p. S p && not (A p)) some in
          let parts = and_parts (S at.0) (not (A at.0)) at.2 in
          inr (λ within. both_ways (A at.0) (not-true (A at.0) parts.1) (within at.0 at.1 parts.0))
      | inr none ↦ inl (λ p below member. elim (cases_Bool (A p)) [
        | inl inside ↦ inside
        | inr out ↦ absurd (both_ways _ (none_at net.places (λ q. S q && not (A q)) none p below) (and_from (S p) (not (A p)) member (not_from_false (A p) out)))
      ])
    ]

-- an open transition of a set in a siphon has an input place in the siphon, and it isn't in the set
module _ (net : Net) (S A : ℕ → Bool) (siphon : IsSiphon net S) (within : IsWithin net A S) (t : ℕ) (opens : IsFirst net.transitions (is_open net A) t) where
  input : (p : ℕ) × IsFirst net.places (is_input_in net S t) p
  input =
      let gives = pair_from net.places A (λ p. net.post p t) (and_parts (has_output_in net A t) _ opens.passes).0 in
      let takes = siphon t opens.below (pair_at net.places S (λ p. net.post p t) gives.0 gives.1 (within gives.0 gives.1 gives.2) gives.3) in
      elim (first_of net.places (is_input_in net S t)) [
        | inl first ↦ first
        | inr none ↦ let at = any_from net.places (is_input_in net S t) takes in absurd (both_ways _ (none at.0 at.1) at.2)
      ]

  -- it isn't in the set
  outside_it : (p : ℕ) → IsFirst net.places (is_input_in net S t) p → A p ≡ false
  outside_it p first =
      elim (cases_Bool (A p)) [
        | inr out ↦ out
        | inl inside ↦
            let weighs = (and_parts (S p) (ltb 0 (net.pre p t)) first.passes).1 in
            absurd (both_ways (has_input_in net A t) (not-true _ (and_parts (has_output_in net A t) _ opens.passes).1)
            (any_at net.places (λ q. A q && ltb 0 (net.pre q t)) p first.below (and_from (A p) (ltb 0 (net.pre p t)) inside weighs)))
      ]

  still_within : (p : ℕ) → IsFirst net.places (is_input_in net S t) p → IsWithin net (with_place A p) S
  still_within p first q below inside =
      elim (or_cases (q == p) (A q) inside) [
        | inl same ↦ subst (λ (r : ℕ). IsTrue (S r)) (sym (eqb-true q p same)) (and_parts (S p) (ltb 0 (net.pre p t)) first.passes).0
        | inr old ↦ within q below old
      ]

  less_outside : (p : ℕ) → IsFirst net.places (is_input_in net S t) p → outside net.places (with_place A p) < outside net.places A
  less_outside p first =
      outside_lt net.places A (with_place A p) p (λ k _ inside. or_right (k == p) (A k) inside) first.below (outside_it p first) (or_left (p == p) (A p) (eq-eqb p p refl))

pub decide_grows : (steps : ℕ) (net : Net) (S A : ℕ → Bool) → IsSiphon net S → IsWithin net A S → outside net.places A < steps → Decided (GrowsWhole net S A)
decide_grows zero net S A siphon within few = absurd (omega arith)
decide_grows (suc steps) net S A siphon within few =
    elim (first_of net.transitions (is_open net A)) [
      | inr none ↦
          let closed = siphon_from_closed net A none in
          elim (decide_within net S A) [
            | inl inside ↦ inl (whole closed inside)
            | inr not_inside ↦ inr (λ grows. not_inside (growth_over net S A closed grows))
          ]
      | inl opens ↦
          let first = input net S A siphon within opens.0 opens.1 in
          let less = less_outside net S A siphon within opens.0 opens.1 first.0 first.1 in
          elim (decide_grows steps net S (with_place A first.0) siphon (still_within net S A siphon within opens.0 opens.1 first.0 first.1) (omega arith)) [
            | inl grows ↦ inl (more opens.0 first.0 opens.1 first.1 grows)
            | inr fails ↦ inr (λ grows. fails (growth_next net S A opens.0 first.0 opens.1 first.1 grows))
          ]
    ]

pub decide_grown : (net : Net) (S : ℕ → Bool) → Decided (IsGrown net S)
decide_grown net S =
    elim (decide_siphon net S) [
      | inr fails ↦ inr (λ grown. fails grown.siphon)
      | inl siphon ↦ elim (first_of net.places S) [
        | inr none ↦ inr (λ grown. both_ways _ (none grown.lowest grown.first.below) grown.first.passes)
        | inl first ↦
            let p = first.0 in
            let within : IsWithin net (only_place p) S = λ q below same. subst (λ (r : ℕ). IsTrue (S r)) (sym (eqb-true q p same)) first.1.passes in
            elim (decide_grows (suc (outside net.places (only_place p))) net S (only_place p) siphon within (omega arith)) [
              | inl grows ↦ inl record { siphon = siphon; lowest = p; first = first.1; grows = grows }
              | inr fails ↦ inr (λ grown. fails (subst (λ (q : ℕ). GrowsWhole net S (only_place q)) (first_same net.places S grown.lowest p grown.first first.1) grown.grows))
            ]
      ]
    ]

module _ (net : Net) (S : ℕ → Bool) (p : ℕ) where
  abbrev rest : ℕ → Bool
  rest q = S q && not (q == p)

  abbrev greatest : ℕ → Bool
  greatest = (greatest_there net rest).0

  smaller : p < net.places → IsTrue (any_below net.places greatest) → HasSiphonWithout net S p
  smaller below some =
      let found = (greatest_there net rest).1 in (
        greatest,
        found.siphon,
        some,
        λ q here member. (and_parts (S q) (not (q == p)) (found.within q here member)).0,
        not_from_false (greatest p) (elim (cases_Bool (greatest p)) [
          | inl member ↦ absurd (both_ways (p == p) (not-true (p == p) (and_parts (S p) (not (p == p)) (found.within p below member)).1) (eq-eqb p p refl))
          | inr out ↦ out
        ]),
      )

  none_smaller : any_below net.places greatest ≡ false → HasSiphonWithout net S p → ⊥
  none_smaller none has_one =
      let R = has_one.0 in
      let within : IsWithin net R rest = λ q here member. and_from (S q) (not (q == p)) (has_one.3 q here member) (not_from_false (q == p) (elim (cases_Bool (q == p)) [
        | inl same ↦ absurd (both_ways (R p) (not-true (R p) has_one.4) (subst (λ (r : ℕ). IsTrue (R r)) (eqb-true q p same) member))
        | inr other ↦ other
      ])) in
      let at = any_from net.places R has_one.2 in
      both_ways (greatest at.0) (none_at net.places greatest none at.0 at.1) ((greatest_there net rest).1.greatest R has_one.1 within at.0 at.1 at.2)

pub decide_minimal : (net : Net) (S : ℕ → Bool) → Decided (IsMinimalSiphon net S)
decide_minimal net S =
    elim (decide_siphon net S) [
      | inr fails ↦ inr (λ minimal. fails minimal.siphon)
      | inl siphon ↦ elim (cases_Bool (any_below net.places S)) [
        | inr empty ↦ inr (λ minimal. both_ways _ empty minimal.nonempty)
        | inl some ↦ elim (cases_Bool (any_below net.places (λ p. S p && any_below net.places (greatest net S p)))) [
          | inl found ↦
              let at = any_from net.places (λ p. S p && any_below net.places (greatest net S p)) found in
              let parts = and_parts (S at.0) (any_below net.places (greatest net S at.0)) at.2 in
              inr (λ minimal. minimal_without net S at.0 at.1 parts.0 (smaller net S at.0 at.1 parts.1) minimal)
          | inr none ↦ inl (minimal_from net S siphon some (λ p below member has_one.
              none_smaller net S p (elim (cases_Bool (any_below net.places (greatest net S p))) [
                | inl filled ↦ absurd (both_ways _ (none_at net.places (λ q. S q && any_below net.places (greatest net S q)) none p below) (and_from (S p) (any_below net.places (greatest net S p)) member filled))
                | inr empty ↦ empty
              ]) has_one))
        ]
      ]
    ]
