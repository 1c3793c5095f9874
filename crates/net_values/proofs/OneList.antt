-- Two strictly ascending lists with the same members are equal: the head of either is the least member, so the
-- heads are equal, and no member after a head is equal to it, so the tails have the same members again.
use Rattle.std.proofs.Common.{◌≡◌, ◌⊎◌, refl, sym, ap, ◌∙◌, subst, ℕ, Bool, zero, suc, List, [], ◌∷◌, Contains, inl, inr, arith}
use Rattle.std.specs.declared.cmp.Ordering.{Ordering}
use Rattle.std.specs.declared.cmp.Ordering.TheVariants.{Less, Equal, Greater}
use Rattle.std.specs.Cmp.{IsTotalOrder, bool_cmp_total}
use Rattle.std.specs.Cmp.Lexicographic.{slice_cmp}
use Rattle.std.specs.Ordering.{nat_cmp, bool_cmp, ordering_reverse}
use Rattle.std.proofs.lemmas.Cmp.{nat_cmp_total, lists_total}
use Rattle.net_values.specs.TheList.{IsStrictlyAscending, IsTheList, MembersMakeTheList}

less_or_greater : (o : Ordering) → o ≡ Less → o ≡ Greater → ⊥
less_or_greater Less less greater = absurd (cc)
less_or_greater Equal less greater = absurd (cc)
less_or_greater Greater less greater = absurd (cc)

module _ {X : Type 0} (compare : X → X → Ordering) (order : IsTotalOrder compare) where
  never_both : (x y : X) → compare x y ≡ Less → compare y x ≡ Less → ⊥
  never_both x y first second = less_or_greater (compare x y) first (order.antisymm x y ∙ ap ordering_reverse second)

  above_head : (x : X) (xs : List X) → IsStrictlyAscending compare (x ∷ xs) → (z : X) → Contains xs z → compare x z ≡ Less
  above_head x xs ascending z here = subst (λ (w : X). compare x w ≡ Less) here.2 (ascending 0 (suc here.0) z (omega arith) (omega (arith, here.1)))

  head_or_above : (y : X) (ys : List X) (x : X) → IsStrictlyAscending compare (y ∷ ys) → Contains (y ∷ ys) x → (x ≡ y) ⊎ (compare y x ≡ Less)
  head_or_above y ys x ascending (zero, within, same) = inl (sym same)
  head_or_above y ys x ascending (suc k, within, same) = inr (above_head y ys ascending x (k, omega (arith, within), same))

  heads_same : (x y : X) (xs ys : List X) → IsStrictlyAscending compare (x ∷ xs) → IsStrictlyAscending compare (y ∷ ys) → Contains (y ∷ ys) x → Contains (x ∷ xs) y → x ≡ y
  heads_same x y xs ys first second x_in y_in =
      elim (head_or_above y ys x second x_in) [
        | inl same ↦ same
        | inr above ↦ elim (head_or_above x xs y first y_in) [
          | inl same ↦ sym same
          | inr below ↦ absurd (never_both x y below above)
        ]
      ]

  in_tail : (y : X) (ys : List X) (z : X) → Contains (y ∷ ys) z → (z ≡ y → ⊥) → Contains ys z
  in_tail y ys z (zero, within, same) other = absurd (other (sym same))
  in_tail y ys z (suc k, within, same) other = (k, omega (arith, within), same)

  -- what follows a head is in the other list's tail, where the heads are equal
  tail_in : (x y : X) (xs ys : List X) → x ≡ y → IsStrictlyAscending compare (x ∷ xs) → ((z : X) → Contains (x ∷ xs) z → Contains (y ∷ ys) z) → (z : X) → Contains xs z → Contains ys z
  tail_in x y xs ys same ascending forth z here =
      in_tail y ys z (forth z (suc here.0, omega (arith, here.1), here.2))
      (λ equal.
      let above = above_head x xs ascending z here in
      let tied : compare x x ≡ Less = subst (λ (w : X). compare x w ≡ Less) (equal ∙ sym same) above in
      never_both x x tied tied)

  tail_ascends : (x : X) (xs : List X) → IsStrictlyAscending compare (x ∷ xs) → IsStrictlyAscending compare xs
  tail_ascends x xs ascending i j d before within = ascending (suc i) (suc j) d (omega (arith, before)) (omega (arith, within))

  one_list : (xs ys : List X) → IsStrictlyAscending compare xs → IsStrictlyAscending compare ys → ((z : X) → Contains xs z → Contains ys z) → ((z : X) → Contains ys z → Contains xs z) → xs ≡ ys
  one_list [] [] first second forth back = refl
  one_list [] (y ∷ ys) first second forth back = let here = back y (0, omega arith, refl) in absurd (omega (arith, here.1))
  one_list (x ∷ xs) [] first second forth back = let here = forth x (0, omega arith, refl) in absurd (omega (arith, here.1))
  one_list (x ∷ xs) (y ∷ ys) first second forth back =
      let same = heads_same x y xs ys first second (forth x (0, omega arith, refl)) (back y (0, omega arith, refl)) in
      let rest = one_list xs ys (tail_ascends x xs first) (tail_ascends y ys second) (tail_in x y xs ys same first forth) (tail_in y x ys xs (sym same) second back) in
      ap (λ z. z ∷ xs) same ∙ ap (λ zs. y ∷ zs) rest

  -- the lists of the things with two properties that imply each other
  pub the_lists_same : (P Q : X → Type 0) (xs ys : List X) → ((x : X) → P x → Q x) → ((x : X) → Q x → P x) → IsTheList compare P xs → IsTheList compare Q ys → xs ≡ ys
  the_lists_same P Q xs ys forth back first second =
      one_list xs ys first.ascending second.ascending
      (λ z here. (second.members z).1 (forth z ((first.members z).0 here)))
      (λ z here. (first.members z).1 (back z ((second.members z).0 here)))

  members_make_the_list : MembersMakeTheList compare
  members_make_the_list list other first second same = one_list list other first second (λ x. (same x).0) (λ x. (same x).1)

pub members_make_the_list_of_vectors : MembersMakeTheList (slice_cmp nat_cmp)
members_make_the_list_of_vectors = members_make_the_list (slice_cmp nat_cmp) (lists_total nat_cmp_total)

pub members_make_the_list_of_sets : MembersMakeTheList (slice_cmp bool_cmp)
members_make_the_list_of_sets = members_make_the_list (slice_cmp bool_cmp) (lists_total bool_cmp_total)

-- the list of the vectors, or of the sets, with a property is one
pub one_list_of_vectors : (Property : List ℕ → Type 0) (list other : List (List ℕ)) → IsTheList (slice_cmp nat_cmp) Property list → IsTheList (slice_cmp nat_cmp) Property other → list ≡ other
one_list_of_vectors Property list other = the_lists_same (slice_cmp nat_cmp) (lists_total nat_cmp_total) Property Property list other (λ x holds. holds) (λ x holds. holds)

pub one_list_of_sets : (Property : List Bool → Type 0) (list other : List (List Bool)) → IsTheList (slice_cmp bool_cmp) Property list → IsTheList (slice_cmp bool_cmp) Property other → list ≡ other
one_list_of_sets Property list other = the_lists_same (slice_cmp bool_cmp) (lists_total bool_cmp_total) Property Property list other (λ x holds. holds) (λ x holds. holds)
