-- Sums over the numbers below a bound, each by induction on the bound: term by term, of one term only,
-- and a sum over a list whose members name their places, read place by place.
use Rattle.std.proofs.Common.{◌≡◌, ◌≢◌, refl, sym, ap, ◌∙◌, ℕ, zero, suc, ◌+◌, ◌*◌, ◌^◌, ◌<◌, ◌≤◌, ◌==◌, cond, List, [], ◌∷◌, length, get_or, All, sum_by, inl, inr, arith}
use Rattle.std.proofs.lemmas.Bool.{cases_eq}
use Rattle.std.proofs.lemmas.Bool.Decides.{nat_tests}
use Rattle.std.proofs.lemmas.List.Sums.{sum_by-cons}
use Rattle.std.proofs.lemmas.List.Elements.{All-tail}
use Rattle.incidence.specs.Sums.{sum_below}

pub below_zero : (n : ℕ) (f : ℕ → ℕ) → ((i : ℕ) → i < n → f i ≡ 0) → sum_below n f ≡ 0
below_zero zero f none = refl
below_zero (suc n) f none =
    let rest : sum_below n f ≡ 0 = below_zero n f (λ i under. none i (omega arith)) in
    let last : f n ≡ 0 = none n (omega arith) in
    omega arith

pub below_added : (n : ℕ) (f g h : ℕ → ℕ) → ((i : ℕ) → i < n → h i ≡ f i + g i) → sum_below n h ≡ sum_below n f + sum_below n g
below_added zero f g h each = refl
below_added (suc n) f g h each =
    let rest : sum_below n h ≡ sum_below n f + sum_below n g = below_added n f g h (λ i under. each i (omega arith)) in
    let last : h n ≡ f n + g n = each n (omega arith) in
    omega arith

pub below_same : (n : ℕ) (f g : ℕ → ℕ) → ((i : ℕ) → i < n → f i ≡ g i) → sum_below n f ≡ sum_below n g
below_same zero f g each = refl
below_same (suc n) f g each =
    let rest : sum_below n f ≡ sum_below n g = below_same n f g (λ i under. each i (omega arith)) in
    let last : f n ≡ g n = each n (omega arith) in
    omega arith

-- a term with those before it is at most the sum
pub below_part : (n p : ℕ) (f : ℕ → ℕ) → p < n → sum_below p f + f p ≤ sum_below n f
below_part zero p f within = absurd (omega arith)
below_part (suc n) p f within =
    elim (cases_eq p n) [
      | inl last ↦
          let before : sum_below p f ≡ sum_below n f = ap (λ (k : ℕ). sum_below k f) last in
          let here : f p ≡ f n = ap f last in
          omega arith
      | inr front ↦ let rest : sum_below p f + f p ≤ sum_below n f = below_part n p f (omega arith) in omega arith
    ]

pub below_one : (n q : ℕ) (f : ℕ → ℕ) → q < n → ((i : ℕ) → i < n → i ≢ q → f i ≡ 0) → sum_below n f ≡ f q
below_one zero q f within others = absurd (omega arith)
below_one (suc n) q f within others =
    elim (cases_eq n q) [
      | inl here ↦
          let rest : sum_below n f ≡ 0 = below_zero n f (λ i under. others i (omega arith) (omega arith)) in
          let last : f n ≡ f q = ap f here in
          omega arith
      | inr other ↦
          let rest : sum_below n f ≡ f q = below_one n q f (omega arith) (λ i under. others i (omega arith)) in
          let last : f n ≡ 0 = others n (omega arith) other in
          omega arith
    ]

-- what a member counts for at a place
abbrev pub counts_at : {X : Type 0} → (X → ℕ) → (X → ℕ) → ℕ → X → ℕ
counts_at place count p x = cond (place x == p) (count x) 0

pub counts_here : {X : Type 0} (place count : X → ℕ) (p : ℕ) (x : X) → place x ≡ p → counts_at place count p x ≡ count x
counts_here place count p x here = grind (arith, nat_tests)

pub counts_elsewhere : {X : Type 0} (place count : X → ℕ) (p : ℕ) (x : X) → place x ≢ p → counts_at place count p x ≡ 0
counts_elsewhere place count p x other = grind (arith, nat_tests)

pub zero_product : (a b : ℕ) → b ≡ 0 → a * b ≡ 0
zero_product a b none = ap (λ x. a * x) none ∙ omega arith

-- the sum over a list is the sum over the places of what its members count for there
pub by_place : {X : Type 0} (place count : X → ℕ) (y : ℕ → ℕ) (n : ℕ) (xs : List X) → All (λ x. place x < n) xs → sum_by (λ x. y (place x) * count x) xs ≡ sum_below n (λ p. y p * sum_by (counts_at place count p) xs)
by_place place count y n [] within = sym (below_zero n (λ p. y p * 0) (λ i under. zero_product (y i) 0 refl))
by_place place count y n (x ∷ xs) within =
    let rest = by_place place count y n xs (All-tail (λ x. place x < n) x xs within) in
    let here : place x < n = within 0 x (omega arith) in
    let one : sum_below n (λ p. y p * counts_at place count p x) ≡ y (place x) * count x =
    below_one n (place x) (λ p. y p * counts_at place count p x) here (λ i under other. zero_product (y i) _ (counts_elsewhere place count i x (λ same. other (sym same))))
    ∙ ap (λ z. y (place x) * z) (counts_here place count (place x) x refl)
    in
    let all = below_added n (λ p. y p * counts_at place count p x) (λ p. y p * sum_by (counts_at place count p) xs) (λ p. y p * sum_by (counts_at place count p) (x ∷ xs))
    (λ i under. ap (λ z. y i * z) (sum_by-cons (counts_at place count i) x xs) ∙ omega arith)
    in
    sum_by-cons (λ x. y (place x) * count x) x xs ∙ ap (λ z. z + sum_by (λ x. y (place x) * count x) xs) (sym one) ∙ ap (λ z. sum_below n (λ p. y p * counts_at place count p x) + z) rest ∙ sym all

-- a sum over a list of which no member or one only counts
pub sum_none : {X : Type 0} (f : X → ℕ) (xs : List X) → ((i : ℕ) (d : X) → i < length xs → f (get_or xs i d) ≡ 0) → sum_by f xs ≡ 0
sum_none f [] none = refl
sum_none f (x ∷ xs) none =
    let first : f x ≡ 0 = none 0 x (omega arith) in
    let rest = sum_none f xs (λ i d within. none (suc i) d (omega arith)) in
    sum_by-cons f x xs ∙ omega (arith, first, rest)

pub sum_one : {X : Type 0} (f : X → ℕ) (xs : List X) (k : ℕ) (d : X) → k < length xs → ((i : ℕ) (e : X) → i < length xs → i ≢ k → f (get_or xs i e) ≡ 0) → sum_by f xs ≡ f (get_or xs k d)
sum_one f [] k d within others = absurd (omega arith)
sum_one f (x ∷ xs) zero d within others =
    let rest = sum_none f xs (λ i e inside. others (suc i) e (omega arith) (omega arith)) in
    sum_by-cons f x xs ∙ omega (arith, rest)
sum_one f (x ∷ xs) (suc k) d within others =
    let first : f x ≡ 0 = others 0 x (omega arith) (omega arith) in
    let rest = sum_one f xs k d (omega arith) (λ i e inside other. others (suc i) e (omega arith) (omega arith)) in
    sum_by-cons f x xs ∙ omega (arith, first, rest)

-- a part of a narrow sum is narrow
pub narrow_part : (total factor amount left before whole sum : ℕ) → amount ≡ left → total ≡ before → before + factor * left ≤ whole → whole ≡ sum → sum < 2 ^ 127 → total + factor * amount < 2 ^ 127
narrow_part total factor amount left before whole sum left_is total_is part whole_is narrow =
    let same : factor * amount ≡ factor * left = ap (λ z. factor * z) left_is in
    omega arith

-- terms of 0 add nothing
pub below_gap : (from to : ℕ) (f : ℕ → ℕ) → from ≤ to → ((i : ℕ) → from ≤ i → i < to → f i ≡ 0) → sum_below to f ≡ sum_below from f
below_gap from zero f order none = ap (λ (n : ℕ). sum_below n f) (let same : 0 ≡ from = omega arith in same)
below_gap from (suc to) f order none =
    elim (cases_eq from (suc to)) [
      | inl same ↦ ap (λ (n : ℕ). sum_below n f) (sym same)
      | inr other ↦
          let rest : sum_below to f ≡ sum_below from f = below_gap from to f (omega arith) (λ i late under. none i late (omega arith)) in
          let last : f to ≡ 0 = none to (omega arith) (omega arith) in
          omega arith
    ]
