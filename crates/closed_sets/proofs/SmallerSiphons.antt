-- A smaller nonempty siphon in a set lacks one of its places, and then lies in the greatest siphon of the
-- set without that place. So a nonempty siphon is minimal exactly where each of these is empty.
use Rattle.std.proofs.Common.{◌≡◌, ◌≢◌, ◌↔◌, sym, subst, ◌∙◌, ℕ, ◌<◌, List, Bool, false, IsTrue, length, set, not, inl, inr, arith}
use Rattle.std.proofs.lemmas.Bool.{cases_lt, cases_eq, both_ways, cases_Bool, not-true, not_from_false}
use Rattle.std.proofs.lemmas.List.{get_or_past, get_or-set_same, get_or-set_other}
use Rattle.net_values.specs.Net.{Net}
use Rattle.net_values.specs.PlaceSets.{has, IsEmpty}
use Rattle.closed_sets.specs.ClosedSets.{any_below, IsSiphon, IsWithin, IsNonempty, IsGreatestSiphon, IsMinimalSiphon, HasSiphonWithout}
use Rattle.closed_sets.specs.declared.guard.Guard.{Guard}
use Rattle.closed_sets.specs.Guards.{guards}
use Rattle.closed_sets.specs.Falling.{LosesGuarded}
use Rattle.closed_sets.proofs.Below.{any_from, none_at}

-- a set that isn't empty has a place
pub nonempty_from : (net : Net) (members : List Bool) → length members ≡ net.places → (IsEmpty members → ⊥) → IsNonempty net (has members)
nonempty_from net members size some =
    elim (cases_Bool (any_below net.places (has members))) [
      | inl found ↦ found
      | inr none ↦ absurd (some (λ p. elim (cases_lt p net.places) [
        | inl below ↦ none_at net.places (has members) none p below
        | inr past ↦ get_or_past members p false (omega arith)
      ]))
    ]

pub nonempty_not : (net : Net) (S : ℕ → Bool) → ((p : ℕ) → S p ≡ false) → IsNonempty net S → ⊥
nonempty_not net S empty some = let at = any_from net.places S some in both_ways (S at.0) (empty at.0) at.2

module _ (net : Net) (members : List Bool) (p : ℕ) (size : length members ≡ net.places) (below : p < net.places) where
  abbrev rest : ℕ → Bool
  rest = has (set members p false)

  left_out : rest p ≡ false
  left_out = get_or-set_same members p false false (omega arith)

  kept : (q : ℕ) → q ≢ p → rest q ≡ has members q
  kept q other = get_or-set_other members p q false false other

  pub without_exact : (found : List Bool) (empty : Bool) → length found ≡ net.places → IsGreatestSiphon net rest (has found) → IsTrue empty ↔ IsEmpty found → IsTrue (not empty) ↔ HasSiphonWithout net (has members) p
  without_exact found empty size' greatest decides = (
    λ filled. (
      has found,
      greatest.siphon,
      nonempty_from net found size' (λ none. both_ways empty (not-true empty filled) (decides.1 none)),
      λ q here member. elim (cases_eq q p) [
        | inl same ↦ absurd (both_ways (rest p) left_out (subst (λ x. IsTrue (rest x)) same (greatest.within q here member)))
        | inr other ↦ sym (kept q other) ∙ greatest.within q here member
      ],
      not_from_false (has found p) (elim (cases_Bool (has found p)) [ inl member ↦ absurd (both_ways (rest p) left_out (greatest.within p below member)) | inr none ↦ none ]),
    ),
    λ smaller.
        let R = smaller.0 in
        let inside : IsWithin net R rest =
        λ q here member. elim (cases_eq q p) [
          | inl same ↦ absurd (both_ways (R p) (not-true (R p) smaller.4) (subst (λ x. IsTrue (R x)) same member))
          | inr other ↦ kept q other ∙ smaller.3 q here member
        ] in
        let at = any_from net.places R smaller.2 in
        not_from_false empty (elim (cases_Bool empty) [
          | inl none ↦ absurd (both_ways (has found at.0) (decides.0 none at.0) (greatest.greatest R smaller.1 inside at.0 at.1 at.2))
          | inr filled ↦ filled
        ]),
  )

pub minimal_from : (net : Net) (S : ℕ → Bool) → IsSiphon net S → IsNonempty net S → ((p : ℕ) → p < net.places → IsTrue (S p) → HasSiphonWithout net S p → ⊥) → IsMinimalSiphon net S
minimal_from net S siphon nonempty none = record {
  siphon = siphon;
  nonempty = nonempty;
  least = λ R smaller some within p below member. elim (cases_Bool (R p)) [
    | inl has_it ↦ has_it
    | inr lacks ↦ absurd (none p below member (R, smaller, some, within, not_from_false (R p) lacks))
  ];
}

-- a minimal siphon has no smaller one
pub minimal_without : (net : Net) (S : ℕ → Bool) (p : ℕ) → p < net.places → IsTrue (S p) → HasSiphonWithout net S p → IsMinimalSiphon net S → ⊥
minimal_without net S p below member smaller minimal =
    both_ways (smaller.0 p) (not-true (smaller.0 p) smaller.4) (minimal.least smaller.0 smaller.1 smaller.2 smaller.3 p below member)

-- where each siphon in the set that lacks the one place lacks a place that none lacks, none lacks the one place
pub none_without : (net : Net) (members : List Bool) (p q : ℕ) → length members ≡ net.places → p < net.places → IsTrue (has (set members p false) q) → ((S : ℕ → Bool) → IsSiphon net S → IsWithin net S (has (set members p false)) → S q ≡ false) → (HasSiphonWithout net (has members) q → ⊥) → HasSiphonWithout net (has members) p → ⊥
none_without net members p q size below member lost none smaller =
    let R = smaller.0 in
    let inside : IsWithin net R (has (set members p false)) =
    λ k here there. elim (cases_eq k p) [
      | inl same ↦ absurd (both_ways (R p) (not-true (R p) smaller.4) (subst (λ x. IsTrue (R x)) same there))
      | inr other ↦ get_or-set_other members p k false false other ∙ smaller.3 k here there
    ] in
    none (R, smaller.1, smaller.2, smaller.3, not_from_false (R q) (lost R smaller.1 inside))

-- where a guarded place of the set falls without the place, no nonempty siphon lacks the place
pub none_guarded : (net : Net) (guard : Guard) (members : List Bool) (p : ℕ) → length members ≡ net.places → p < net.places → LosesGuarded net guard (set members p false) → ((q : ℕ) → IsTrue (guards guard q) → IsTrue (has members q) → HasSiphonWithout net (has members) q → ⊥) → HasSiphonWithout net (has members) p → ⊥
none_guarded net guard members p size below loses guarded =
    let q = loses.place in
    let inside : IsTrue (has members q) = elim (cases_eq q p) [
      | inl same ↦ absurd (both_ways (has (set members p false) p) (get_or-set_same members p false false (omega arith)) (subst (λ (k : ℕ). IsTrue (has (set members p false) k)) same loses.member))
      | inr other ↦ sym (get_or-set_other members p q false false other) ∙ loses.member
    ] in
    none_without net members p q size below loses.member loses.lost (guarded q loses.guarded inside)
