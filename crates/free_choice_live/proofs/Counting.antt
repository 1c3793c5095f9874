-- How many numbers below a bound pass a test: the measure of the two inductions on liveness. A test that
-- implies another passes no more often, and less often where one number passes the other only.
use Rattle.std.proofs.Common.{◌≡◌, ℕ, zero, suc, ◌+◌, ◌<◌, ◌≤◌, Bool, true, false, IsTrue, cond, arith, refl, inl, inr}
use Rattle.std.proofs.lemmas.Bool.{cases_eq, true≢false, false≢true}

abbrev pub count : ℕ → (ℕ → Bool) → ℕ
count zero test = 0
count (suc n) test = cond (test n) 1 0 + count n test

one_each : (a b : Bool) → (IsTrue a → IsTrue b) → cond a 1 0 ≤ cond b 1 0
one_each true true h = omega arith
one_each true false h = absurd (false≢true (h refl))
one_each false true h = omega arith
one_each false false h = omega arith

one_less : (a b : Bool) → a ≡ false → IsTrue b → cond a 1 0 < cond b 1 0
one_less true b out member = absurd (true≢false out)
one_less false true out member = omega arith
one_less false false out member = absurd (false≢true member)

pub no_more : (n : ℕ) (f g : ℕ → Bool) → ((k : ℕ) → k < n → IsTrue (f k) → IsTrue (g k)) → count n f ≤ count n g
no_more zero f g within = omega arith
no_more (suc n) f g within =
    let first = one_each (f n) (g n) (within n (omega arith)) in
    let rest = no_more n f g (λ k below. within k (omega arith)) in
    omega arith

pub fewer : (n : ℕ) (f g : ℕ → Bool) (k : ℕ) → ((k : ℕ) → k < n → IsTrue (f k) → IsTrue (g k)) → k < n → f k ≡ false → IsTrue (g k) → count n f < count n g
fewer zero f g k within below out member = absurd (omega arith)
fewer (suc n) f g k within below out member =
    elim (cases_eq k n) [
      | inl same ↦
          let first : cond (f n) 1 0 < cond (g n) 1 0 = one_less (f n) (g n) (rw same at out) (rw same at member) in
          let rest = no_more n f g (λ k below. within k (omega arith)) in
          omega arith
      | inr other ↦
          let first = one_each (f n) (g n) (within n (omega arith)) in
          let rest = fewer n f g k (λ k below. within k (omega arith)) (omega arith) out member in
          omega arith
    ]
