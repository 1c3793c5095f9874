-- The next place of a held class: the open transitions are kept, so the lowest one is read off, and its lowest input
-- place in the greatest siphon is the first entry whose place is in it.
use Rattle.std.proofs.Common.{◌≡◌, sym, ap, ◌∙◌, subst, ℕ, ◌<◌, ◌≤◌, ◌&&◌, List, Bool, false, IsTrue, ltb, length, get_or, inl, inr, Option, None, Some, MatchOption, arith}
use Rattle.std.proofs.lemmas.Bool.{cases_Bool, cases_lt, cases_eq, both_ways, and_from, and_parts, lt-ltb, ltb-true}
use Rattle.std.proofs.lemmas.List.{get_or_default}
use Rattle.net_values.specs.declared.column.WeightedPlace.{WeightedPlace}
use Rattle.net_values.specs.Columns.{Lists}
use Rattle.net_values.specs.Net.{Net}
use Rattle.net_values.specs.PlaceSets.{has, HasNoneFrom, IsEmpty, IsFirstFrom}
use Rattle.net_values.proofs.TokenCounts.{nowhere}
use Rattle.closed_sets.specs.ClosedSets.{has_input_in, has_output_in}
use Rattle.closed_sets.specs.Growth.{IsFirst, is_input_in, is_open}
use Rattle.closed_sets.proofs.Below.{any_from, none_from, pair_at, pair_from}
use Rattle.closed_sets.proofs.Passes.{siphon_from_closed}
use Rattle.closed_sets.proofs.SmallerSiphons.{nonempty_from}
use Rattle.siphon_branch.specs.declared.live_class.LiveClass.{LiveClass}
use Rattle.siphon_branch.specs.LiveClasses.{IsHeld, IsNextPlace, IsWhole}
use Rattle.siphon_branch.specs.Held.{HasNoInput}

-- the entries of a transition are looked at in their order
module _ (net : Net) (S : ℕ → Bool) (t : ℕ) (entries : List WeightedPlace) (h : Lists net.places (λ p. net.pre p t) entries) (i : ℕ) (none : (k : ℕ) → k < i → S (get_or entries k nowhere).place ≡ false) where
  -- the place of an entry that is in the set comes no earlier
  not_earlier : (q : ℕ) → IsTrue (S q) → 0 < net.pre q t → (k : ℕ) × (k < length entries) × (i ≤ k) × ((get_or entries k nowhere).place ≡ q)
  not_earlier q member positive =
      let entry = h.complete q positive in
      let there : (get_or entries entry.0 nowhere).place ≡ q = ap (λ (e : WeightedPlace). e.place) (get_or_default entries entry.0 nowhere entry.1 entry.2 ∙ entry.3) ∙ entry.4 in
      elim (cases_lt entry.0 i) [
        | inl before ↦ absurd (both_ways (S q) (subst (λ (r : ℕ). S r ≡ false) there (none entry.0 before)) member)
        | inr past ↦ (entry.0, entry.2, past, there)
      ]

  pub input_none : length entries ≤ i → HasNoInput net S t
  input_none past =
      none_from net.places (λ p. S p && ltb 0 (net.pre p t)) (λ p below. elim (cases_Bool (S p && ltb 0 (net.pre p t))) [
        | inl takes ↦
            let parts = and_parts (S p) (ltb 0 (net.pre p t)) takes in
            let there = not_earlier p parts.0 (ltb-true 0 (net.pre p t) parts.1) in
            absurd (omega (arith, there.1, there.2))
        | inr fails ↦ fails
      ])

  pub input_first : i < length entries → IsTrue (S (get_or entries i nowhere).place) → IsFirst net.places (is_input_in net S t) (get_or entries i nowhere).place
  input_first within member =
      let p : ℕ = (get_or entries i nowhere).place in
      let weighs : 0 < net.pre p t = omega (arith, h.sound i nowhere within, h.column.positive i nowhere within) in
      record {
        below = h.within i nowhere within;
        passes = and_from (S p) (ltb 0 (net.pre p t)) member (lt-ltb 0 (net.pre p t) weighs);
        before = λ k less. elim (cases_Bool (is_input_in net S t k)) [
          | inr out ↦ out
          | inl takes ↦
              let parts = and_parts (S k) (ltb 0 (net.pre k t)) takes in
              let there = not_earlier k parts.0 (ltb-true 0 (net.pre k t) parts.1) in
              elim (cases_eq there.0 i) [
                | inl same ↦ let e : (get_or entries i nowhere).place ≡ k = subst (λ (j : ℕ). (get_or entries j nowhere).place ≡ k) same there.3 in absurd (omega (arith, e, less))
                | inr other ↦ let up = h.column.ascending i there.0 nowhere (omega (arith, there.2)) there.1 in absurd (omega (arith, up, there.3, less))
              ]
        ];
      }

module _ (net : Net) (class : LiveClass) (held : IsHeld net class) where
  abbrev C : ℕ → Bool
  C = has class.contains

  abbrev G : ℕ → Bool
  G = has class.greatest

  pub lowest_next : (r : Option ℕ) → IsEmpty class.contains → MatchOption r (HasNoneFrom class.greatest 0) (λ p. IsFirstFrom class.greatest 0 p) → MatchOption r (IsWhole net C) (IsNextPlace net C G)
  lowest_next None empty none = let at = any_from net.places G held.some in absurd (both_ways (G at.0) (none at.0 (omega arith)) at.2)
  lowest_next (Some p) empty first = inl record {
    nothing = empty;
    first = record {
      below = omega (arith, first.below_size, held.room);
      passes = first.member;
      before = λ k less. first.first k (omega arith) less;
    };
  }

  pub closed_whole : (IsEmpty class.contains → ⊥) → HasNoneFrom class.opens 0 → IsWhole net C
  closed_whole some none = record {
    siphon = siphon_from_closed net C (λ t below. sym (held.opens.exact t below) ∙ none t (omega arith));
    some = nonempty_from net class.contains held.size.contains some;
  }

  module _ (t : ℕ) (first : IsFirstFrom class.opens 0 t) where
    pub open_below : t < net.transitions
    open_below = omega (arith, first.below_size, held.opens.size)

    lowest_open : IsFirst net.transitions (is_open net C) t
    lowest_open = record {
      below = open_below;
      passes = sym (held.opens.exact t open_below) ∙ first.member;
      before = λ k less. sym (held.opens.exact k (omega (arith, open_below))) ∙ first.first k (omega arith) less;
    }

    has_input : IsTrue (has_input_in net G t)
    has_input =
        let gives = pair_from net.places C (λ q. net.post q t) (and_parts (has_output_in net C t) _ lowest_open.passes).0 in
        held.greatest.siphon t open_below (pair_at net.places G (λ q. net.post q t) gives.0 gives.1 (held.within gives.0 gives.1 gives.2) gives.3)

    pub input_next : (r : Option ℕ) → MatchOption r (HasNoInput net G t) (IsFirst net.places (is_input_in net G t)) → MatchOption r (IsWhole net C) (IsNextPlace net C G)
    input_next None none = absurd (both_ways (has_input_in net G t) none has_input)
    input_next (Some p) input = inr record { transition = t; opens = lowest_open; first = input }
