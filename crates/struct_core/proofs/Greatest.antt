-- The greatest of the least bounds of the places is the greatest number that the list of bounds has.
use Rattle.std.proofs.Common.{◌≡◌, ℕ, zero, suc, ◌+◌, ◌<◌, ◌≤◌, List, Option, Some, None, length, refl, sym, ap, subst, ◌∙◌, arith, inl, inr, ℤ, pos}
use Rattle.std.specs.Prelude.{◌⊎◌, ◌≤ℤ◌, MatchOption}
use Rattle.std.proofs.lemmas.Bool.{cases_lt}
use Rattle.std.proofs.lemmas.Int.{ints}
use Rattle.std.proofs.lemmas.Option.{same_Some}
use Rattle.net_values.specs.Net.{Net}
use Rattle.bounds.specs.declared.place_bound.PlaceBound.{PlaceBound}
use Rattle.bounds.specs.LeastBound.{IsLeastBound}
use Rattle.bounds.specs.Listed.{kept_at, bound_of, told, AreLeastBounds}
use Rattle.struct_core.specs.Summaries.{HasGreatest, IsGreater, IsGreatestBound}
use Rattle.struct_core.proofs.OneVerdict.{one_bound}

pub greatest_none : (bounds : List (Option PlaceBound)) → HasGreatest bounds 0 (pos 0)
greatest_none bounds = record { tokens = 0; is = refl; above = λ p bound below. absurd (omega (arith, below)); attained = inl refl }

-- where the next place has no bound
none_more : (bounds : List (Option PlaceBound)) (p : ℕ) (one : ℤ) → bound_of (kept_at bounds p) ≡ None → HasGreatest bounds p one → HasGreatest bounds (p + 1) one
none_more bounds p one none before = record {
  tokens = before.tokens;
  is = before.is;
  above = λ q bound below has. elim (cases_lt q p) [
    | inl earlier ↦ before.above q bound earlier has
    | inr here ↦ (let same : q ≡ p = omega (arith, below, here) in
        let both : None ≡ Some bound = sym none ∙ ap (λ (n : ℕ). bound_of (kept_at bounds n)) (sym same) ∙ has in
        absurd (cc))
  ];
  attained = elim before.attained [
    | inl zero_is ↦ inl zero_is
    | inr at ↦ inr (at.0, omega (arith, at.1), at.2)
  ];
}

-- the greater of two numbers is one of them
greater_is : (a b : ℕ) (one other : ℤ) → one ≡ pos a → IsGreater one (pos b) other → (n : ℕ) × (other ≡ pos n) × (a ≤ n) × (b ≤ n) × ((n ≡ a) ⊎ (n ≡ b))
greater_is a b one other is greater = elim greater.either [
  | inl first ↦ (let above : pos b ≤ℤ pos a = subst (λ (z : ℤ). pos b ≤ℤ z) (first ∙ is) greater.second in
      (a, first ∙ is, omega arith, omega (arith, ints, above), inl refl))
  | inr second ↦ (let above : pos a ≤ℤ pos b = subst (λ (z : ℤ). z ≤ℤ pos b) is (subst (λ (z : ℤ). one ≤ℤ z) second greater.first) in
      (b, second, omega (arith, ints, above), omega arith, inr refl))
]

-- where it has one, and the greater of both numbers is taken
some_more : (bounds : List (Option PlaceBound)) (p : ℕ) (one other : ℤ) (b : ℕ) → bound_of (kept_at bounds p) ≡ Some b → IsGreater one (pos b) other
    → HasGreatest bounds p one → HasGreatest bounds (p + 1) other
some_more bounds p one other b has greater before =
    let taken = greater_is before.tokens b one other before.is greater in
    record {
      tokens = taken.0;
      is = taken.1;
      above = λ q bound below found. elim (cases_lt q p) [
        | inl earlier ↦ (let old = before.above q bound earlier found in omega (arith, old, taken.2))
        | inr here ↦ (let same : q ≡ p = omega (arith, below, here) in
            let bound_is : bound ≡ b = same_Some bound b (sym found ∙ ap (λ (n : ℕ). bound_of (kept_at bounds n)) same ∙ has) in
            omega (arith, bound_is, taken.3))
      ];
      attained = elim taken.4 [
        | inl kept ↦ elim before.attained [
          | inl zero_is ↦ inl (kept ∙ zero_is)
          | inr at ↦ inr (at.0, omega (arith, at.1), at.2 ∙ ap Some (sym kept))
        ]
        | inr new ↦ inr (p, omega arith, has ∙ ap Some (sym new))
      ];
    }

by_kept : (bounds : List (Option PlaceBound)) (p : ℕ) (one other : ℤ) (kept : Option PlaceBound) → kept_at bounds p ≡ kept
    → MatchOption (told kept) (other ≡ one) (λ t. IsGreater one t.0 other) → HasGreatest bounds p one → HasGreatest bounds (p + 1) other
by_kept bounds p one other None is same before = subst (HasGreatest bounds (p + 1)) (sym same) (none_more bounds p one (ap bound_of is) before)
by_kept bounds p one other (Some kept) is greater before = some_more bounds p one other kept.bound (ap bound_of is) greater before

pub greatest_more : (bounds : List (Option PlaceBound)) (p : ℕ) (one other : ℤ) (found : Option (ℤ × ℕ)) → found ≡ told (kept_at bounds p)
    → MatchOption found (other ≡ one) (λ t. IsGreater one t.0 other) → HasGreatest bounds p one → HasGreatest bounds (p + 1) other
greatest_more bounds p one other found is greater before =
    by_kept bounds p one other (kept_at bounds p) refl (subst (λ (f : Option (ℤ × ℕ)). MatchOption f (other ≡ one) (λ t. IsGreater one t.0 other)) is greater) before

-- the greater of two numbers is there
some_greater : (a b : ℕ) (one : ℤ) → one ≡ pos a → (z : ℤ) × IsGreater one (pos b) z
some_greater a b one is = elim (cases_lt a b) [
  | inl less ↦ (pos b, record { first = subst (λ (z : ℤ). z ≤ℤ pos b) (sym is) (omega (arith, ints, less)); second = omega (arith, ints); either = inr refl })
  | inr more ↦ (one, record { first = subst (λ (z : ℤ). z ≤ℤ z) (sym is) (omega (arith, ints)); second = subst (λ (z : ℤ). pos b ≤ℤ z) (sym is) (omega (arith, ints, more)); either = inl refl })
]

next_greatest : (bounds : List (Option PlaceBound)) (p : ℕ) (one : ℤ) → HasGreatest bounds p one → (kept : Option PlaceBound) → kept_at bounds p ≡ kept
    → (z : ℤ) × HasGreatest bounds (p + 1) z
next_greatest bounds p one before None is = (one, none_more bounds p one (ap bound_of is) before)
next_greatest bounds p one before (Some kept) is =
    let greater = some_greater before.tokens kept.bound one before.is in
    (greater.0, some_more bounds p one greater.0 kept.bound (ap bound_of is) greater.1 before)

-- ---- of the places

pub greatest_bound : (net : Net) (bounds : List (Option PlaceBound)) (greatest : ℤ) → length bounds ≡ net.places → AreLeastBounds net bounds
    → HasGreatest bounds (length bounds) greatest → (tokens : ℕ) × IsGreatestBound net tokens × (greatest ≡ pos tokens)
greatest_bound net bounds greatest size least has = (
  has.tokens,
  record {
    above = λ p bound below is.
        has.above p bound (omega (arith, size, below)) (one_bound net p (bound_of (kept_at bounds p)) (Some bound) (least p below) is);
    attained = elim has.attained [
      | inl zero_is ↦ inl zero_is
      | inr at ↦ (let below : at.0 < net.places = omega (arith, size, at.1) in
          inr (at.0, below, subst (IsLeastBound net at.0) at.2 (least at.0 below)))
    ];
  },
  has.is,
)

-- each list has one
pub greatest_of : (bounds : List (Option PlaceBound)) (n : ℕ) → (greatest : ℤ) × HasGreatest bounds n greatest
greatest_of bounds zero = (pos 0, greatest_none bounds)
greatest_of bounds (suc n) =
    let same : n + 1 ≡ suc n = omega arith in
    let before = greatest_of bounds n in
    let more = next_greatest bounds n before.0 before.1 (kept_at bounds n) refl in
    (more.0, subst (λ (m : ℕ). HasGreatest bounds m more.0) same more.1)
