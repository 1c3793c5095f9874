-- The lowest number that passes a test: a search for it below a bound, and why there is only one.
use Rattle.std.proofs.Common.{◌≡◌, ◌⊎◌, sym, subst, ℕ, zero, suc, ◌<◌, Bool, true, false, inl, inr, arith}
use Rattle.std.proofs.lemmas.Bool.{cases_Bool, cases_order}

-- the lowest number below the bound that passes, or none
pub lowest_or_none : (test : ℕ → Bool) (n : ℕ) → ((p : ℕ) × (p < n) × (test p ≡ true) × ((q : ℕ) → q < p → test q ≡ false)) ⊎ ((p : ℕ) → p < n → test p ≡ false)
lowest_or_none test zero = inr (λ p below. absurd (omega (arith, below)))
lowest_or_none test (suc n) =
    elim (lowest_or_none test n) [
      | inl found ↦ let below : found.0 < n = found.1 in inl (found.0, omega arith, found.2, found.3)
      | inr none ↦ elim (cases_Bool (test n)) [
        | inl here ↦ inl (n, omega arith, here, none)
        | inr not_here ↦ inr (λ p below. elim (cases_order p n) [
          | inl same ↦ subst (λ k. test k ≡ false) (sym same) not_here
          | inr rest ↦ elim rest [
            | inl under ↦ none p under
            | inr above ↦ absurd (omega (arith, below, above))
          ]
        ])
      ]
    ]

-- two numbers of which the property holds and of none below are one
pub lowest_is_one : (P : ℕ → Type 0) (p q : ℕ) → P p → ((r : ℕ) → r < p → P r → ⊥) → P q → ((r : ℕ) → r < q → P r → ⊥) → p ≡ q
lowest_is_one P p q p_holds below_p q_holds below_q =
    elim (cases_order p q) [
      | inl same ↦ same
      | inr rest ↦ elim rest [
        | inl below ↦ absurd (below_q p below p_holds)
        | inr above ↦ absurd (below_p q above q_holds)
      ]
    ]
