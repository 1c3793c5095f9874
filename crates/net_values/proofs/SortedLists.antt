-- A sorted list without two equal members is strictly ascending: of two members the later one isn't below
-- the earlier, and where they don't compare as equal it is above. Sorting moves members and makes none
-- equal.
use Rattle.std.proofs.Common.{◌≡◌, ◌≢◌, ◌↔◌, refl, sym, ap, ◌∙◌, subst, ℕ, ◌<◌, ◌==◌, if◌then◌else◌, false, List, length, get_or, Contains, inl, inr, arith}
use Rattle.std.specs.declared.cmp.Ordering.{Ordering}
use Rattle.std.specs.declared.cmp.Ordering.TheVariants.{Less, Equal, Greater}
use Rattle.std.specs.Cmp.{IsTotalOrder}
use Rattle.std.specs.FinMap.{IsAntisymmetric}
use Rattle.std.specs.List.{swap}
use Rattle.std.specs.List.Sorted.{IsPermutation, IsSorted}
use Rattle.std.specs.Ordering.{is_lt, ordering_reverse}
use Rattle.std.proofs.lemmas.Bool.{true≢false, cases_eq, cases_lt}
use Rattle.std.proofs.lemmas.Bool.Decides.{nat_tests}
use Rattle.std.proofs.lemmas.List.Edits.{swapped_from_swap, length-swap}
use Rattle.std.proofs.lemmas.List.Sorted.{ranks_by, sorted_far, Contains-permutation, IsPermutation-sym, IsPermutation-keeps}
use Rattle.net_values.specs.TheList.{AreApart, IsStrictlyAscending, IsTheList}

-- the members at two different places aren't equal
record Apart {X : Type 0} (xs : List X) : Type 0 where
  apart : (i j : ℕ) (d : X) → i < length xs → j < length xs → i ≢ j → get_or xs i d ≢ get_or xs j d

apart_both_ways : {X : Type 0} (xs : List X) → AreApart xs → Apart xs
apart_both_ways xs h = record {
  apart = λ i j d inside within other same.
      elim (cases_lt i j) [
        | inl before ↦ h.apart i j d before within same
        | inr after ↦ h.apart j i d (omega arith) inside (sym same)
      ];
}

module _ {X : Type 0} (xs : List X) (a b : ℕ) (first : a < length xs) (second : b < length xs) where
  -- where the member at k of the list with two members exchanged occurred before
  abbrev from : ℕ → ℕ
  from k = if k == a then b else (if k == b then a else k)

  from_within : (k : ℕ) → k < length xs → from k < length xs
  from_within k within = grind (arith, nat_tests)

  from_apart : (i j : ℕ) → i ≢ j → from i ≢ from j
  from_apart i j other = grind (arith, nat_tests)

  stood : (k : ℕ) (d : X) → get_or (swap xs a b) k d ≡ get_or xs (from k) d
  stood k d =
      let moved = swapped_from_swap xs (swap xs a b) a b d first second refl in
      elim (cases_eq k a) [
        | inl same ↦ subst (λ n. get_or (swap xs a b) n d ≡ get_or xs (from n) d) (sym same) (moved.0 ∙ ap (λ n. get_or xs n d) (grind (arith, nat_tests)))
        | inr other ↦ elim (cases_eq k b) [
          | inl same ↦ subst (λ n. get_or (swap xs a b) n d ≡ get_or xs (from n) d) (sym same) (moved.1 ∙ ap (λ n. get_or xs n d) (grind (arith, nat_tests)))
          | inr third ↦ moved.2 k other third ∙ ap (λ n. get_or xs n d) (grind (arith, nat_tests))
        ]
      ]

  apart_swapped : Apart xs → Apart (swap xs a b)
  apart_swapped h = record {
    apart = λ i j d inside within other same.
        let size = length-swap xs a b in
        h.apart (from i) (from j) d (from_within i (omega arith)) (from_within j (omega arith)) (from_apart i j other)
        (sym (stood i d) ∙ same ∙ stood j d);
  }

apart_permuted : {X : Type 0} (xs ys : List X) → IsPermutation xs ys → Apart xs → Apart ys
apart_permuted xs ys moved h = IsPermutation-keeps xs Apart h (λ l i j first second. apart_swapped l i j first second) ys moved

less_from : (o r : Ordering) → o ≡ ordering_reverse r → is_lt r ≡ false → (o ≡ Equal → ⊥) → o ≡ Less
less_from o Less back above other = absurd (true≢false above)
less_from o Equal back above other = absurd (other back)
less_from o Greater back above other = back

module _ {X : Type 0} (compare : X → X → Ordering) (order : IsTotalOrder compare) (exact : IsAntisymmetric compare) where
  -- a list without two equal members, sorted
  pub ascending_from_sort : (xs ys : List X) → AreApart xs → IsPermutation xs ys → IsSorted compare ys → IsStrictlyAscending compare ys
  ascending_from_sort xs ys h moved sorted i j d before within =
      let x = get_or ys i d in
      let y = get_or ys j d in
      let apart = apart_permuted xs ys moved (apart_both_ways xs h) in
      less_from (compare x y) (compare y x) (order.antisymm x y)
      (sorted_far (λ x y. is_lt (compare x y)) (ranks_by order (λ (x : X). x)) ys sorted i j d (omega arith) within)
      (λ tied. apart.apart i j d (omega arith) within (omega arith) (exact x y tied))

-- what a sort makes of a list that has each thing with the property once
pub the_list_from_sort : {X : Type 0} (compare : X → X → Ordering) (Property : X → Type 0) (xs ys : List X) → ((x : X) → Contains xs x ↔ Property x) → IsPermutation xs ys → IsStrictlyAscending compare ys → IsTheList compare Property ys
the_list_from_sort compare Property xs ys members moved ascending = record {
  ascending = ascending;
  members = λ x. (
    λ has. (members x).0 (Contains-permutation ys xs x (IsPermutation-sym xs ys moved) has),
    λ holds. Contains-permutation xs ys x moved ((members x).1 holds),
  );
}
