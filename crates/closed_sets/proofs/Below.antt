-- Tests of the numbers below a bound: some number passes, or none does.
use Rattle.std.proofs.Common.{◌≡◌, refl, sym, ℕ, zero, suc, ◌<◌, Bool, true, false, IsTrue, ◌&&◌, ltb, inl, inr, arith}
use Rattle.std.proofs.lemmas.Bool.{cases_eq, false≢true, ltb-true, lt-ltb, and_from, and_parts, both_ways, cases_Bool}
use Rattle.closed_sets.specs.ClosedSets.{any_below}

pub same_bools : (a b : Bool) → (IsTrue a → IsTrue b) → (IsTrue b → IsTrue a) → a ≡ b
same_bools true b to from = sym (to refl)
same_bools false true to from = from refl
same_bools false false to from = refl

pub any_at : (n : ℕ) (f : ℕ → Bool) (k : ℕ) → k < n → IsTrue (f k) → IsTrue (any_below n f)
any_at zero f k below passes = absurd (omega arith)
any_at (suc n) f k below passes =
    elim (cases_Bool (f n)) [
      | inl here ↦ rw here refl
      | inr fails ↦ elim (cases_eq k n) [
        | inl same ↦ absurd (both_ways (f n) fails (rw same at passes))
        | inr other ↦ rw fails (any_at n f k (omega arith) passes)
      ]
    ]

pub any_from : (n : ℕ) (f : ℕ → Bool) → IsTrue (any_below n f) → (k : ℕ) × (k < n) × IsTrue (f k)
any_from zero f some = absurd (false≢true some)
any_from (suc n) f some =
    elim (cases_Bool (f n)) [
      | inl here ↦ (n, omega arith, here)
      | inr fails ↦ let rest = any_from n f (rw fails at some) in (rest.0, omega (arith, rest.1), rest.2)
    ]

pub none_at : (n : ℕ) (f : ℕ → Bool) → any_below n f ≡ false → (k : ℕ) → k < n → f k ≡ false
none_at n f none k below = elim (cases_Bool (f k)) [ inl holds ↦ absurd (both_ways _ none (any_at n f k below holds)) | inr fails ↦ fails ]

pub none_from : (n : ℕ) (f : ℕ → Bool) → ((k : ℕ) → k < n → f k ≡ false) → any_below n f ≡ false
none_from n f none =
    elim (cases_Bool (any_below n f)) [
      | inl some ↦ let found = any_from n f some in absurd (both_ways _ (none found.0 found.1) found.2)
      | inr fails ↦ fails
    ]

-- a place in a set with a positive weight
pub pair_at : (n : ℕ) (S : ℕ → Bool) (w : ℕ → ℕ) (p : ℕ) → p < n → IsTrue (S p) → 0 < w p → IsTrue (any_below n (λ p. S p && ltb 0 (w p)))
pair_at n S w p below member positive = any_at n (λ p. S p && ltb 0 (w p)) p below (and_from (S p) (ltb 0 (w p)) member (lt-ltb 0 (w p) positive))

pub pair_from : (n : ℕ) (S : ℕ → Bool) (w : ℕ → ℕ) → IsTrue (any_below n (λ p. S p && ltb 0 (w p))) → (p : ℕ) × (p < n) × IsTrue (S p) × (0 < w p)
pair_from n S w some =
    let found = any_from n (λ p. S p && ltb 0 (w p)) some in
    (found.0, found.1, (and_parts (S found.0) (ltb 0 (w found.0)) found.2).0, ltb-true 0 (w found.0) (and_parts (S found.0) (ltb 0 (w found.0)) found.2).1)
