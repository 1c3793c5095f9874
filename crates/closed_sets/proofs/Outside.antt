-- The number of places outside a set, which falls as the set grows. Inductions over sets go down by it.
use Rattle.std.proofs.Common.{◌≡◌, refl, ap, subst, ℕ, zero, suc, ◌+◌, ◌<◌, ◌≤◌, Bool, true, false, IsTrue, cond, inl, inr, arith}
use Rattle.std.proofs.lemmas.Bool.{cases_eq, false≢true}

-- how many numbers below the bound are not in the set
pub outside : ℕ → (ℕ → Bool) → ℕ
outside zero A = 0
outside (suc n) A = cond (A n) 0 1 + outside n A

one_most : (b : Bool) → cond {A = ℕ} b 0 1 ≤ 1
one_most true = omega arith
one_most false = omega arith

pub outside_most : (n : ℕ) (A : ℕ → Bool) → outside n A ≤ n
unfolding outside
outside_most zero A = omega arith
outside_most (suc n) A = omega (arith, one_most (A n), outside_most n A)

one_less : (b c : Bool) → (IsTrue b → IsTrue c) → cond {A = ℕ} c 0 1 ≤ cond {A = ℕ} b 0 1
one_less true true h = omega arith
one_less true false h = absurd (false≢true (h refl))
one_less false true h = omega arith
one_less false false h = omega arith

outside_le : (n : ℕ) (A A' : ℕ → Bool) → ((k : ℕ) → k < n → IsTrue (A k) → IsTrue (A' k)) → outside n A' ≤ outside n A
unfolding outside
outside_le zero A A' within = omega arith
outside_le (suc n) A A' within = omega (arith, one_less (A n) (A' n) (within n (omega arith)), outside_le n A A' (λ k less. within k (omega arith)))

pub outside_lt : (n : ℕ) (A A' : ℕ → Bool) (p : ℕ) → ((k : ℕ) → k < n → IsTrue (A k) → IsTrue (A' k)) → p < n → A p ≡ false → IsTrue (A' p) → outside n A' < outside n A
unfolding outside
outside_lt zero A A' p within below out inside = absurd (omega arith)
outside_lt (suc n) A A' p within below out inside =
    elim (cases_eq p n) [
      | inl same ↦
          let old : cond {A = ℕ} (A n) 0 1 ≡ 1 = ap (λ (b : Bool). cond {A = ℕ} b 0 1) (subst (λ (m : ℕ). A m ≡ false) same out) in
          let new : cond {A = ℕ} (A' n) 0 1 ≡ 0 = ap (λ (b : Bool). cond {A = ℕ} b 0 1) (subst (λ (m : ℕ). A' m ≡ true) same inside) in
          omega (arith, outside_le n A A' (λ k less. within k (omega arith)))
      | inr other ↦ omega (arith, one_less (A n) (A' n) (within n (omega arith)), outside_lt n A A' p (λ k less. within k (omega arith)) (omega arith) out inside)
    ]
