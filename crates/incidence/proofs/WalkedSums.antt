-- The sum over a walk of the positive entries is the sum over all positions that it has passed: between two positive
-- entries all are 0, and so is what follows the last.
use Rattle.std.proofs.Common.{◌≡◌, sym, ap, ◌∙◌, subst, ℕ, suc, ◌+◌, ◌*◌, ◌≤◌, List, length, slice_index, arith}
use Rattle.net_values.specs.Vectors.{AreZerosFrom, IsFirstPositive, WalkValue}
use Rattle.incidence.specs.Sums.{sum_below}
use Rattle.incidence.proofs.Below.{below_gap, below_part}

module _ (factors : List ℕ) (M : ℕ → ℕ) (walk : WalkValue) (same : walk.entries ≡ factors) where
  abbrev term : ℕ → ℕ
  term q = slice_index factors q * M q

  zero_term : (q : ℕ) → slice_index factors q ≡ 0 → term q ≡ 0
  zero_term q none = ap (λ (x : ℕ). x * M q) none ∙ omega arith

  module _ (p entry total amount : ℕ) (found : IsFirstPositive walk.entries walk.from p entry) (so_far : total ≡ sum_below walk.from (λ q. slice_index factors q * M q)) (read : amount ≡ M p) where
    first : IsFirstPositive factors walk.from p entry
    first = subst (λ (es : List ℕ). IsFirstPositive es walk.from p entry) same found

    here : entry * amount ≡ term p
    here = ap (λ (x : ℕ). x * amount) first.here ∙ ap (λ (x : ℕ). slice_index factors p * x) read

    before : sum_below p term ≡ sum_below walk.from term
    before = below_gap walk.from p term first.zeros.order (λ q late under. zero_term q (first.zeros.zeros q late under))

    -- one positive entry more
    pub walked_more : (next new : ℕ) → next ≡ p + 1 → new ≡ total + entry * amount → new ≡ sum_below next (λ q. slice_index factors q * M q)
    walked_more next new to is =
        let at : next ≡ suc p = omega arith in
        let step : sum_below next term ≡ sum_below (suc p) term = ap (λ (n : ℕ). sum_below n term) at in
        let gap = before in
        let one = here in
        omega arith

    -- it is a part of the whole sum
    pub walked_part : total + entry * amount ≤ sum_below (length factors) (λ q. slice_index factors q * M q)
    walked_part =
        let part = below_part (length factors) p term first.within in
        let gap = before in
        let one = here in
        omega arith

  pub walked_all : (n : ℕ) → walk.from ≤ n → AreZerosFrom walk.entries walk.from → sum_below walk.from (λ q. slice_index factors q * M q) ≡ sum_below n (λ q. slice_index factors q * M q)
  walked_all n order zeros =
      sym (below_gap walk.from n term order (λ q late under. zero_term q (subst (λ (es : List ℕ). slice_index es q ≡ 0) same (zeros q late))))
