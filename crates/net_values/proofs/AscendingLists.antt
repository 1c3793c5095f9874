-- What a binary search in an ascending list tells, and what a list with one number more has.
use Rattle.std.proofs.Common.{◌≡◌, sym, subst, ℕ, ◌+◌, ◌-◌, ◌<◌, ◌≤◌, List, [], ◌∷◌, length, get_or, Contains, Err, inl, inr, arith}
use Rattle.std.specs.List.{insert}
use Rattle.std.specs.List.Sorted.{IsSearchInRange, IsBinarySearchResult, IsSortedBy}
use Rattle.std.specs.Ordering.{nat_cmp, is_lt}
use Rattle.std.proofs.lemmas.Bool.{cases_lt, cases_eq}
use Rattle.std.proofs.lemmas.Bool.Decides.{nat_tests}
use Rattle.std.proofs.lemmas.Cmp.{nat_cmp_total}
use Rattle.std.proofs.lemmas.List.Elements.{Contains-append_cases, Contains-append_right}
use Rattle.std.proofs.lemmas.List.Edits.{get_or-insert_below, get_or-insert_at, get_or-insert_above, length-insert}
use Rattle.std.proofs.lemmas.List.Sorted.{searchable_from_sorted, IsPermutation-insert, IsPermutation-sym, Contains-permutation}
use Rattle.net_values.specs.PlaceArcs.{IsAscending, HasOneMore}

-- a number belongs before k
pub record BelongsBefore (list : List ℕ) (number k : ℕ) : Type 0 where
  pub within : k ≤ length list
  pub below : (i d : ℕ) → i < k → get_or list i d < number
  pub above : (i d : ℕ) → k ≤ i → i < length list → number < get_or list i d

sorted_list : (list : List ℕ) → IsAscending list → IsSortedBy (λ one other. is_lt (nat_cmp one other)) list
sorted_list list h k d low high =
    let up : get_or list k d < get_or list (k + 1) d = h k (k + 1) d (omega arith) high in
    grind (arith, nat_tests)

-- what a search that found none tells
pub belongs_before : (list read : List ℕ) (number k : ℕ) → IsAscending list → read ≡ list → IsSearchInRange (Err k) (length read) → IsBinarySearchResult (λ y. nat_cmp y number) read (Err k) → BelongsBefore list number k
belongs_before list read number k h same bound result =
    let bound' : k ≤ length list = subst (λ (xs : List ℕ). k ≤ length xs) same bound in
    let result' : IsBinarySearchResult (λ y. nat_cmp y number) list (Err k) = subst (λ (xs : List ℕ). IsBinarySearchResult (λ y. nat_cmp y number) xs (Err k)) same result in
    let parts = result' (searchable_from_sorted nat_cmp_total (λ x. x) list number (sorted_list list h)) in
    record {
      within = bound';
      below = λ i d less. grind (arith, nat_tests, parts.0 i d (omega arith) less);
      above = λ i d low high. grind (arith, nat_tests, parts.1 i d low high);
    }

module _ (list : List ℕ) (number k : ℕ) (belongs : BelongsBefore list number k) where
  only : (u : ℕ) → Contains (number ∷ []) u → u ≡ number
  only u some =
      let first : some.0 ≡ 0 = omega (arith, some.1) in
      sym (subst (λ (i : ℕ). get_or (number ∷ []) i u ≡ u) first some.2)

  pub one_more_put : HasOneMore list (insert list k number) number
  one_more_put = record {
    members = λ u.
        let moved = IsPermutation-insert list k number in (
          λ some. elim (Contains-append_cases (number ∷ []) list u (Contains-permutation (insert list k number) (number ∷ list) u (IsPermutation-sym _ _ moved) some)) [
            | inl new ↦ inl (only u new)
            | inr old ↦ inr old
          ],
          λ either. Contains-permutation (number ∷ list) (insert list k number) u moved (elim either [
            | inl same ↦ (0, omega arith, sym same)
            | inr old ↦ Contains-append_right (number ∷ []) list u old
          ]),
        );
  }

  size : length (insert list k number) ≡ length list + 1
  size = length-insert list k number belongs.within

  -- what is at i
  lower : (i d : ℕ) → i < k → get_or (insert list k number) i d ≡ get_or list i d
  lower i d less = get_or-insert_below list k number d i less belongs.within

  upper : (i d : ℕ) → k < i → get_or (insert list k number) i d ≡ get_or list (i - 1) d
  upper i d more =
      let e : i ≡ (i - 1) + 1 = omega arith in
      subst (λ (j : ℕ). get_or (insert list k number) j d ≡ get_or list (i - 1) d) (sym e) (get_or-insert_above list k number d (i - 1) (omega arith) belongs.within)

  here : (d : ℕ) → get_or (insert list k number) k d ≡ number
  here d = get_or-insert_at list k number d belongs.within

  pub ascending_put : IsAscending list → IsAscending (insert list k number)
  ascending_put h i j d less within =
      elim (cases_lt j k) [
        | inl before ↦ omega (arith, lower i d (omega arith), lower j d before, h i j d less (omega (arith, belongs.within)))
        | inr from ↦ elim (cases_eq j k) [
          | inl at ↦ let e : get_or (insert list k number) j d ≡ number = subst (λ (m : ℕ). get_or (insert list k number) m d ≡ number) (sym at) (here d) in
              omega (arith, lower i d (omega arith), e, belongs.below i d (omega arith))
          | inr after ↦
              let at_j = upper j d (omega arith) in
              let in_list : j - 1 < length list = omega (arith, size) in
              elim (cases_lt i k) [
                | inl low ↦ omega (arith, lower i d low, at_j, h i (j - 1) d (omega arith) in_list)
                | inr high ↦ elim (cases_eq i k) [
                  | inl at ↦ let e : get_or (insert list k number) i d ≡ number = subst (λ (m : ℕ). get_or (insert list k number) m d ≡ number) (sym at) (here d) in
                      omega (arith, e, at_j, belongs.above (j - 1) d (omega arith) in_list)
                  | inr above ↦ omega (arith, upper i d (omega arith), at_j, h (i - 1) (j - 1) d (omega arith) in_list)
                ]
              ]
        ]
      ]
