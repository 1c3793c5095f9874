-- Every nonempty siphon contains a listed one. If it contains none, then no smaller nonempty siphon in it
-- does; so by induction on the number of places there is no smaller one, and it is minimal and listed.
use Rattle.std.proofs.Common.{◌≡◌, refl, sym, ap, ◌∙◌, ℕ, zero, suc, ◌<◌, ◌&&◌, List, [], ◌∷◌, Bool, IsTrue, not, length, Contains, inl, inr, arith}
use Rattle.std.proofs.lemmas.Bool.{and_from, and_parts, both_ways, cases_Bool, not-true, not_from_false}
use Rattle.std.specs.List.{list_any}
use Rattle.std.proofs.lemmas.List.Folds.{Any-from_list_any, list_any_at}
use Rattle.net_values.specs.Net.{Net}
use Rattle.net_values.specs.PlaceSets.{has}
use Rattle.closed_sets.specs.ClosedSets.{any_below, IsSiphon, IsWithin, IsNonempty, IsMinimalSiphon}
use Rattle.closed_sets.specs.MinimalSets.{IsMinimalSet, MinimalSetsCover}
use Rattle.closed_sets.proofs.Below.{any_at, any_from, pair_at, pair_from}
use Rattle.closed_sets.proofs.Outside.{outside, outside_lt}

-- the list of the truth values of a set
table : ℕ → (ℕ → Bool) → List Bool
table zero S = []
table (suc n) S = S 0 ∷ table n (λ k. S (suc k))

table_size : (n : ℕ) (S : ℕ → Bool) → length (table n S) ≡ n
unfolding table
table_size zero S = refl
table_size (suc n) S = omega (arith, table_size n (λ k. S (suc k)))

table_at : (n : ℕ) (S : ℕ → Bool) (k : ℕ) → k < n → has (table n S) k ≡ S k
unfolding table
table_at zero S k below = absurd (omega arith)
table_at (suc n) S zero below = refl
table_at (suc n) S (suc k) below = table_at n (λ k. S (suc k)) k (omega arith)

-- sets with the same places are minimal siphons alike
same_minimal : (net : Net) (S R : ℕ → Bool) → ((p : ℕ) → p < net.places → R p ≡ S p) → IsMinimalSiphon net S → IsMinimalSiphon net R
same_minimal net S R same minimal = record {
  siphon = λ t below gives.
      let out = pair_from net.places R (λ p. net.post p t) gives in
      let takes = pair_from net.places S (λ p. net.pre p t) (minimal.siphon t below (pair_at net.places S (λ p. net.post p t) out.0 out.1 (sym (same out.0 out.1) ∙ out.2) out.3)) in
      pair_at net.places R (λ p. net.pre p t) takes.0 takes.1 (same takes.0 takes.1 ∙ takes.2) takes.3;
  nonempty = let at = any_from net.places S minimal.nonempty in any_at net.places R at.0 at.1 (same at.0 at.1 ∙ at.2);
  least = λ Q siphon some within p below member.
      minimal.least Q siphon some (λ q here inside. sym (same q here) ∙ within q here inside) p below (sym (same p below) ∙ member);
}

-- whether the first set lies in the second
abbrev lies_in : ℕ → (ℕ → Bool) → List Bool → Bool
lies_in n S list = not (any_below n (λ p. has list p && not (S p)))

lies_within : (net : Net) (S : ℕ → Bool) (list : List Bool) → IsTrue (lies_in net.places S list) → IsWithin net (has list) S
lies_within net S list inside p below member =
    elim (cases_Bool (S p)) [
      | inl holds ↦ holds
      | inr fails ↦ absurd (both_ways _ (not-true _ inside) (any_at net.places (λ q. has list q && not (S q)) p below (and_from (has list p) (not (S p)) member (not_from_false (S p) fails))))
    ]

within_lies : (net : Net) (S : ℕ → Bool) (list : List Bool) → IsWithin net (has list) S → IsTrue (lies_in net.places S list)
within_lies net S list within =
    elim (cases_Bool (any_below net.places (λ q. has list q && not (S q)))) [
      | inl some ↦
          let at = any_from net.places (λ q. has list q && not (S q)) some in
          absurd (both_ways (S at.0) (not-true (S at.0) (and_parts (has list at.0) (not (S at.0)) at.2).1) (within at.0 at.1 (and_parts (has list at.0) (not (S at.0)) at.2).0))
      | inr none ↦ not_from_false _ none
    ]

module _ (net : Net) (list : List (List Bool)) (listed : (set : List Bool) → IsMinimalSet net set → Contains list set) where
  none_uncovered : (steps : ℕ) (S : ℕ → Bool) → outside net.places (λ p. not (S p)) < steps → IsSiphon net S → IsNonempty net S → ((set : List Bool) → Contains list set → IsWithin net (has set) S → ⊥) → ⊥
  none_uncovered zero S few siphon some none = omega arith
  none_uncovered (suc steps) S few siphon some none =
      let minimal : IsMinimalSiphon net S = record {
        siphon = siphon;
        nonempty = some;
        least = λ R siphon' some' within p below member. elim (cases_Bool (R p)) [
          | inl holds ↦ holds
          | inr fails ↦ absurd (none_uncovered steps R
              (omega (
                arith,
                outside_lt net.places (λ q. not (S q)) (λ q. not (R q)) p (λ q here out. not_from_false (R q) (elim (cases_Bool (R q)) [
                  | inl inside ↦ absurd (both_ways (S q) (not-true (S q) out) (within q here inside))
                  | inr none' ↦ none'
                ])) below (ap not member) (not_from_false (R p) fails),
              )) siphon' some'
              (λ set there inside. none set there (λ q here member'. within q here (inside q here member'))))
        ];
      } in
      let set = table net.places S in
      none set (listed set record { size = table_size net.places S; minimal = same_minimal net S (has set) (table_at net.places S) minimal }) (λ p below member. sym (table_at net.places S p below) ∙ member)

pub covers : (net : Net) → MinimalSetsCover net
covers net list the S siphon some =
    elim (cases_Bool (list_any (lies_in net.places S) list)) [
      | inl found ↦ let at = Any-from_list_any (lies_in net.places S) list found in (at.0, at.1, at.2, at.3, lies_within net S at.1 at.4)
      | inr none ↦ absurd (none_uncovered net list (λ set minimal. (the.members set).1 minimal) (suc (outside net.places (λ p. not (S p)))) S (omega arith) siphon some
          (λ set there within. both_ways _ none (list_any_at (lies_in net.places S) list there.0 set there.1 (ap (lies_in net.places S) there.2 ∙ within_lies net S set within))))
    ]
