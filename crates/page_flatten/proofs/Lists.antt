-- What occurs at a number of a list, after a write, a push and a map.
use Rattle.std.proofs.Common.{◌≡◌, ◌≢◌, refl, sym, ap, ◌∙◌, subst, ℕ, zero, suc, ◌<◌, List, [], ◌∷◌, ◌++◌, Option, Some, None, length, map, set, get_or, slice_get, ◌⊎◌, inl, inr, IfNone, arith}

pub some_is : {X : Type 0} {a b : X} → Some a ≡ Some b → a ≡ b
some_is e = cc

-- a member that is read of a list that is another one by name
pub read_in : {X : Type 0} (list items : List X) (k : ℕ) (x : X) → list ≡ items → k < length list → x ≡ get_or list k x → (k < length items) × (x ≡ get_or items k x)
read_in list items k x same under is = (subst (λ (l : List _). k < length l) same under, subst (λ (l : List _). x ≡ get_or l k x) same is)

-- two readings of one place agree
pub same_read : {X : Type 0} (xs : List X) (n : ℕ) {a b : X} → slice_get xs n ≡ Some a → slice_get xs n ≡ Some b → a ≡ b
same_read xs n at also = some_is (sym at ∙ also)

pub within : {X : Type 0} (xs : List X) (n : ℕ) (x : X) → slice_get xs n ≡ Some x → n < length xs
within [] n x at = absurd cc
within (y ∷ xs) zero x at = omega arith
within (y ∷ xs) (suc n) x at = let h = within xs n x at in omega arith

pub set_same : {X : Type 0} (xs : List X) (n : ℕ) (x y : X) → slice_get xs n ≡ Some x → slice_get (set xs n y) n ≡ Some y
set_same [] n x y at = absurd cc
set_same (z ∷ xs) zero x y at = refl
set_same (z ∷ xs) (suc n) x y at = set_same xs n x y at

pub set_other : {X : Type 0} (xs : List X) (n m : ℕ) (y : X) → m ≢ n → slice_get (set xs n y) m ≡ slice_get xs m
set_other [] n m y other = refl
set_other (z ∷ xs) zero zero y other = absurd (other refl)
set_other (z ∷ xs) zero (suc m) y other = refl
set_other (z ∷ xs) (suc n) zero y other = refl
set_other (z ∷ xs) (suc n) (suc m) y other = set_other xs n m y (λ e. other (ap suc e))

pub get_map : {X Y : Type 0} (f : X → Y) (xs : List X) (n : ℕ) (x : X) → slice_get xs n ≡ Some x → slice_get (map f xs) n ≡ Some (f x)
get_map f [] n x at = absurd cc
get_map f (z ∷ xs) zero x at = ap (λ y. Some (f y)) (some_is at)
get_map f (z ∷ xs) (suc n) x at = get_map f xs n x at

pub from_map : {X Y : Type 0} (f : X → Y) (xs : List X) (n : ℕ) (y : Y) → slice_get (map f xs) n ≡ Some y → (x : X) × (slice_get xs n ≡ Some x) × (f x ≡ y)
from_map f [] n y at = absurd cc
from_map f (z ∷ xs) zero y at = (z, refl, some_is at)
from_map f (z ∷ xs) (suc n) y at = from_map f xs n y at

-- what is in a list with one more at its end
pub from_push : {X : Type 0} (xs : List X) (y : X) (n : ℕ) (x : X) → slice_get (xs ++ y ∷ []) n ≡ Some x → (slice_get xs n ≡ Some x) ⊎ ((n ≡ length xs) × (y ≡ x))
from_push [] y zero x at = inr (refl, some_is at)
from_push [] y (suc n) x at = absurd cc
from_push (z ∷ xs) y zero x at = inl at
from_push (z ∷ xs) y (suc n) x at = elim (from_push xs y n x at) [ inl h ↦ inl h | inr h ↦ inr (ap suc h.0, h.1) ]

pub get_front : {X : Type 0} (xs ys : List X) (n : ℕ) (x : X) → slice_get xs n ≡ Some x → slice_get (xs ++ ys) n ≡ Some x
get_front [] ys n x at = absurd cc
get_front (z ∷ xs) ys zero x at = at
get_front (z ∷ xs) ys (suc n) x at = get_front xs ys n x at

-- what holds in each case holds where it is asked for
pub where_none : {T : Type 0} (r : Option T) (X : Type 0) → X → IfNone r X
where_none None X x = x
where_none (Some t) X x = tt

-- an element that isn't the default is read from the list
pub read_or : {X : Type 0} (xs : List X) (n : ℕ) (x d : X) → x ≡ get_or xs n d → (x ≡ d → ⊥) → slice_get xs n ≡ Some x
read_or [] n x d is other = absurd (other is)
read_or (y ∷ xs) zero x d is other = ap Some (sym is)
read_or (y ∷ xs) (suc n) x d is other = read_or xs n x d is other

pub read_or_none : {X : Type 0} (xs : List X) (n : ℕ) (x d : X) → d ≡ get_or xs n d → slice_get xs n ≡ Some x → x ≡ d
read_or_none [] n x d is at = absurd cc
read_or_none (y ∷ xs) zero x d is at = sym (is ∙ some_is at)
read_or_none (y ∷ xs) (suc n) x d is at = read_or_none xs n x d is at

pub none_then : {T : Type 0} (r : Option T) (P Q : Type 0) → (P → Q) → IfNone r P → IfNone r Q
none_then None P Q then h = then h
none_then (Some t) P Q then h = tt
