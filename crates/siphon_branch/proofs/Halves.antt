-- A class is parted in two at the next place of the growth: a siphon that is grown in it lacks the place and is grown
-- in the part without it, or has it and is grown in the part with it, since the growth then takes that place next.
use Rattle.std.proofs.Common.{◌≡◌, refl, sym, ap, ◌∙◌, subst, ℕ, ◌<◌, ◌==◌, ◌||◌, Bool, false, IsTrue, ltb, inl, inr, arith}
use Rattle.std.proofs.Math.Bool.{or-false}
use Rattle.std.proofs.lemmas.Bool.{or_cases, or_left, or_right, eq-eqb, eqb-true, ltb-true, and_from, and_parts, both_ways, cases_Bool, not-true}
use Rattle.net_values.specs.Net.{Net}
use Rattle.closed_sets.specs.ClosedSets.{has_input_in, has_output_in, IsSiphon, IsNonempty, IsWithin}
use Rattle.closed_sets.specs.Growth.{IsFirst, is_input_in, with_place, only_place, Belongs, GrowsWhole, more, IsGrownIn}
use Rattle.closed_sets.proofs.Below.{any_at, any_from, pair_at, pair_from}
use Rattle.closed_sets.proofs.Firsts.{first_same}
use Rattle.siphon_branch.specs.LiveClasses.{IsNextPlace, IsLowestLeft, IsLowestInput}
use Rattle.siphon_branch.proofs.Growths.{same_growth, growth_next}

-- the part without a place
module _ (net : Net) (C A S : ℕ → Bool) (p : ℕ) where
  pub to_without : IsGrownIn net C A S → S p ≡ false → IsGrownIn net C (with_place A p) S
  to_without grown lacks = record {
    siphon = grown.siphon;
    belongs = record {
      has_all = grown.belongs.has_all;
      has_none = λ q below out. elim (or_cases (q == p) (A q) out) [
        | inl same ↦ subst (λ (r : ℕ). S r ≡ false) (sym (eqb-true q p same)) lacks
        | inr old ↦ grown.belongs.has_none q below old
      ];
    };
    grows = grown.grows;
  }

  pub from_without : p < net.places → IsGrownIn net C (with_place A p) S → IsGrownIn net C A S × (S p ≡ false)
  from_without below' grown = (
    record {
      siphon = grown.siphon;
      belongs = record { has_all = grown.belongs.has_all; has_none = λ q below out. grown.belongs.has_none q below (or_right (q == p) (A q) out) };
      grows = grown.grows;
    },
    grown.belongs.has_none p below' (or_left (p == p) (A p) (eq-eqb p p refl)),
  )

module _ (net : Net) (C left : ℕ → Bool) (p : ℕ) (next : IsNextPlace net C left p) where
  pub next_below : p < net.places
  next_below = elim next [ inl lowest ↦ lowest.first.below | inr input ↦ input.first.below ]

  pub next_left : IsTrue (left p)
  next_left = elim next [
    | inl lowest ↦ lowest.first.passes
    | inr input ↦ (and_parts (left p) (ltb 0 (net.pre p input.transition)) input.first.passes).0
  ]

  pub next_free : C p ≡ false
  next_free = elim next [
    | inl lowest ↦ lowest.nothing p
    | inr input ↦
        let t = input.transition in
        elim (cases_Bool (C p)) [
          | inl member ↦ absurd (both_ways (has_input_in net C t) (not-true _ (and_parts (has_output_in net C t) _ input.opens.passes).1)
              (pair_at net.places C (λ q. net.pre q t) p next_below member (ltb-true 0 (net.pre p t) (and_parts (left p) (ltb 0 (net.pre p t)) input.first.passes).1)))
          | inr out ↦ out
        ]
  ]

  pub with_some : IsNonempty net (with_place C p)
  with_some = any_at net.places (with_place C p) p next_below (or_left (p == p) (C p) (eq-eqb p p refl))

  -- the part with the place, where what is left has all that a siphon of the class may have
  module _ (A S : ℕ → Bool) (inside : IsSiphon net S → Belongs net C A S → IsWithin net S left) where
    absent : IsSiphon net S → Belongs net C A S → (k : ℕ) → k < net.places → left k ≡ false → S k ≡ false
    absent siphon belongs k below out =
        elim (cases_Bool (S k)) [
          | inl member ↦ absurd (both_ways (left k) out (inside siphon belongs k below member))
          | inr none ↦ none
        ]

    -- the place is the one that the growth takes
    is_lowest : IsLowestLeft net C left p → IsSiphon net S → Belongs net C A S → IsTrue (S p) → IsFirst net.places S p
    is_lowest lowest siphon belongs member = record {
      below = lowest.first.below;
      passes = member;
      before = λ k less. absent siphon belongs k (omega (arith, lowest.first.below)) (lowest.first.before k less);
    }

    is_input : (input : IsLowestInput net C left p) → IsSiphon net S → Belongs net C A S → IsTrue (S p) → IsFirst net.places (is_input_in net S input.transition) p
    is_input input siphon belongs member =
        let t = input.transition in
        let weighs = (and_parts (left p) (ltb 0 (net.pre p t)) input.first.passes).1 in
        record {
          below = input.first.below;
          passes = and_from (S p) (ltb 0 (net.pre p t)) member weighs;
          before = λ k less. elim (cases_Bool (is_input_in net S t k)) [
            | inr out ↦ out
            | inl takes ↦
                let parts = and_parts (S k) (ltb 0 (net.pre k t)) takes in
                let stays = inside siphon belongs k (omega (arith, input.first.below)) parts.0 in
                absurd (both_ways (is_input_in net left t k) (input.first.before k less) (and_from (left k) (ltb 0 (net.pre k t)) stays parts.1))
          ];
        }

    open_some : IsLowestInput net C left p → IsNonempty net C
    open_some input =
        let gives = pair_from net.places C (λ q. net.post q input.transition) (and_parts (has_output_in net C input.transition) _ input.opens.passes).0 in
        any_at net.places C gives.0 gives.1 gives.2

    only_this : IsLowestLeft net C left p → (q : ℕ) → only_place p q ≡ with_place C p q
    only_this lowest q = sym (ap (λ (b : Bool). q == p || b) (lowest.nothing q) ∙ or-false (q == p))

    empty_not : IsLowestLeft net C left p → IsNonempty net C → ⊥
    empty_not lowest some = let at = any_from net.places C some in both_ways (C at.0) (lowest.nothing at.0) at.2

    pub to_containing : IsGrownIn net C A S → IsTrue (S p) → IsGrownIn net (with_place C p) A S
    to_containing grown member = record {
      siphon = grown.siphon;
      belongs = record {
        has_all = λ q below member'. elim (or_cases (q == p) (C q) member') [
          | inl same ↦ subst (λ (r : ℕ). IsTrue (S r)) (sym (eqb-true q p same)) member
          | inr old ↦ grown.belongs.has_all q below old
        ];
        has_none = grown.belongs.has_none;
      };
      grows = inl (
        with_some,
        elim next [
          | inl lowest ↦ elim grown.grows [
            | inl grows ↦ absurd (empty_not lowest grows.0)
            | inr whole ↦
                let same : whole.1.lowest ≡ p = first_same net.places S whole.1.lowest p whole.1.first (is_lowest lowest grown.siphon grown.belongs member) in
                same_growth net S (only_place p) (with_place C p) (only_this lowest) (subst (λ (r : ℕ). GrowsWhole net S (only_place r)) same whole.1.grows)
          ]
          | inr input ↦ elim grown.grows [
            | inl grows ↦ growth_next net S C input.transition p input.opens (is_input input grown.siphon grown.belongs member) grows.1
            | inr whole ↦ absurd (whole.0 (open_some input))
          ]
        ],
      );
    }

    pub from_containing : IsGrownIn net (with_place C p) A S → IsGrownIn net C A S × IsTrue (S p)
    from_containing grown =
        let member : IsTrue (S p) = grown.belongs.has_all p next_below (or_left (p == p) (C p) (eq-eqb p p refl)) in
        let belongs : Belongs net C A S = record { has_all = λ q below member'. grown.belongs.has_all q below (or_right (q == p) (C q) member'); has_none = grown.belongs.has_none } in
        let grows : GrowsWhole net S (with_place C p) = elim grown.grows [ inl grows ↦ grows.1 | inr whole ↦ absurd (whole.0 with_some) ] in (
          record {
            siphon = grown.siphon;
            belongs = belongs;
            grows = elim next [
              | inl lowest ↦ inr (
                empty_not lowest,
                record {
                  siphon = grown.siphon;
                  lowest = p;
                  first = is_lowest lowest grown.siphon belongs member;
                  grows = same_growth net S (with_place C p) (only_place p) (λ q. sym (only_this lowest q)) grows;
                },
              )
              | inr input ↦ inl (open_some input, more input.transition p input.opens (is_input input grown.siphon belongs member) grows)
            ];
          },
          member,
        )
