-- Lists of sets, each once: two lists with nothing in common make one of both.
use Rattle.std.proofs.Common.{◌≡◌, refl, sym, subst, ℕ, ◌-◌, List, [], ◌∷◌, ◌++◌, length, get_or, length-append, inl, inr, AllPairs, Contains, arith}
use Rattle.std.proofs.lemmas.Bool.{cases_lt}
use Rattle.std.proofs.lemmas.List.{get_or_append_left, get_or-append_right}
use Rattle.std.proofs.lemmas.List.Elements.{Contains-get_or}
use Rattle.siphon_branch.specs.Limits.{AreDistinct}

-- what holds of all pairs in two lists and across them holds of all pairs in both
pub pairs_append : {X : Type 0} (R : X → X → Type 0) (xs ys : List X) → AllPairs R xs → AllPairs R ys → ((x y : X) → Contains xs x → Contains ys y → R x y) → AllPairs R (xs ++ ys)
pairs_append R xs ys one other across i j d less within =
    let total = length-append xs ys in
    elim (cases_lt j (length xs)) [
      | inl left ↦
          subst (λ x. R x (get_or (xs ++ ys) j d)) (sym (get_or_append_left xs ys d i (omega arith)))
          (subst (λ y. R (get_or xs i d) y) (sym (get_or_append_left xs ys d j left)) (one i j d less left))
      | inr right ↦
          subst (λ y. R (get_or (xs ++ ys) i d) y) (sym (get_or-append_right xs ys (length xs) j d refl right))
          (elim (cases_lt i (length xs)) [
            | inl left ↦
                subst (λ x. R x (get_or ys (j - length xs) d)) (sym (get_or_append_left xs ys d i left))
                (across (get_or xs i d) (get_or ys (j - length xs) d) (Contains-get_or xs i d left) (Contains-get_or ys (j - length xs) d (omega arith)))
            | inr right' ↦
                subst (λ x. R x (get_or ys (j - length xs) d)) (sym (get_or-append_right xs ys (length xs) i d refl right'))
                (other (i - length xs) (j - length xs) d (omega arith) (omega arith))
          ])
    ]

pub distinct_append : {X : Type 0} (xs ys : List X) → AreDistinct xs → AreDistinct ys → ((x : X) → Contains xs x → Contains ys x → ⊥) → AreDistinct (xs ++ ys)
distinct_append xs ys one other disjoint =
    pairs_append (λ x later. x ≡ later → ⊥) xs ys one other (λ x y first then same. disjoint x first (subst (λ z. Contains ys z) (sym same) then))

pub distinct_one : {X : Type 0} (x : X) → AreDistinct (x ∷ [])
distinct_one x i j d less within same = absurd (omega arith)

pub contains_one : {X : Type 0} (x y : X) → Contains (x ∷ []) y → y ≡ x
contains_one x y some =
    let first : some.0 ≡ 0 = omega (arith, some.1) in
    sym (subst (λ (i : ℕ). get_or (x ∷ []) i y ≡ y) first some.2)

pub contains_none : {X : Type 0} (x : X) → Contains [] x → ⊥
contains_none x some = omega (arith, some.1)
