-- One column more: zero rows and combinations of a positive and a negative row are semiflows over the
-- columns with the new one, and so are their quotients by the greatest common divisor of their entries.
use Rattle.std.proofs.Common.{◌≡◌, refl, ◌⊎◌, sym, ap, ◌∙◌, subst, ℕ, zero, suc, ◌+◌, ◌*◌, ◌<◌, List, inl, inr, arith}
use Rattle.std.specs.Int.{◌∣◌}
use Rattle.std.proofs.Math.Nat.{mul-dvd-mul_left, dvd_of_mul-dvd-mul_left, eq-one_of_dvd-one, eq_of_mul-eq-mul_left, mul-lt-mul_of_pos_left}
use Rattle.incidence.specs.Matrix.{Matrix, gain_sum, loss_sum, positive_at, negative_at}
use Rattle.incidence.specs.Semiflow.{IsWithin, IsNonzero, IsSemiflow, IsCoprime}
use Rattle.semiflow_elim.specs.Bases.{HasBelow}
use Rattle.semiflow_elim.proofs.Weighted.{weighted_join, weighted_scale}

-- the columns K' are K with c
pub record Extends (K : ℕ → Type 0) (c : ℕ) (K' : ℕ → Type 0) : Type 0 where
  pub old : (j : ℕ) → K j → K' j
  pub new : K' c
  pub only : (j : ℕ) → K' j → K j ⊎ (j ≡ c)

abbrev pub with_column : (ℕ → Type 0) → ℕ → ℕ → Type 0
with_column K c j = K j ⊎ (j ≡ c)

pub with_extends : (K : ℕ → Type 0) (c : ℕ) → Extends K c (with_column K c)
with_extends K c = record {
  old = λ j k. inl k;
  new = inr refl;
  only = λ j k. k;
}

extended : (m : Matrix) (K K' : ℕ → Type 0) (c : ℕ) (y : ℕ → ℕ) → Extends K c K' → IsNonzero m y → ((j : ℕ) → j < m.columns → K j → gain_sum m j y ≡ loss_sum m j y) → gain_sum m c y ≡ loss_sum m c y → IsSemiflow m K' y
extended m K K' c y more some old new = record {
  nonzero = some;
  balanced = λ j p k'. elim (more.only j k') [
    | inl k ↦ old j p k
    | inr same ↦ subst (λ (j : ℕ). gain_sum m j y ≡ loss_sum m j y) (sym same) new
  ];
}

pub zero_semiflow : (m : Matrix) (K K' : ℕ → Type 0) (c : ℕ) (y : ℕ → ℕ) → Extends K c K' → IsSemiflow m K y → gain_sum m c y ≡ loss_sum m c y → IsSemiflow m K' y
zero_semiflow m K K' c y more flow new = extended m K K' c y more flow.nonzero flow.balanced new

joined_old : (gp lp gr lr gs ls x y : ℕ) → gp ≡ x * gr + y * gs → lp ≡ x * lr + y * ls → gr ≡ lr → gs ≡ ls → gp ≡ lp
joined_old gp lp gr lr gs ls x y g l r s =
    let one : x * gr ≡ x * lr = ap (λ z. x * z) r in
    let two : y * gs ≡ y * ls = ap (λ z. y * z) s in
    omega arith

joined_new : (gp lp gr lr gs ls x y a b : ℕ) → gp ≡ x * gr + y * gs → lp ≡ x * lr + y * ls → gr ≡ lr + a → ls ≡ gs + b → x * a ≡ y * b → gp ≡ lp
joined_new gp lp gr lr gs ls x y a b g l r s same =
    let one : x * gr ≡ x * (lr + a) = ap (λ z. x * z) r in
    let two : y * ls ≡ y * (gs + b) = ap (λ z. y * z) s in
    omega arith

pub product_positive : (x r : ℕ) → 0 < x → 0 < r → 0 < x * r
product_positive x r first second = let h : x * 0 < x * r = mul-lt-mul_of_pos_left second first in omega arith

-- the combination of a positive and a negative row with coefficients that cancel their differences
pub pair_semiflow : (m : Matrix) (K K' : ℕ → Type 0) (c : ℕ) (p r s : ℕ → ℕ) (x y a b : ℕ) → Extends K c K' → IsSemiflow m K r → IsSemiflow m K s → gain_sum m c r ≡ loss_sum m c r + a → loss_sum m c s ≡ gain_sum m c s + b → x * a ≡ y * b → 0 < x → ((i : ℕ) → i < m.rows → p i ≡ x * r i + y * s i) → IsSemiflow m K' p
pair_semiflow m K K' c p r s x y a b more r_flow s_flow r_over s_under cancels positive entries =
    extended m K K' c p more
    (let some = r_flow.nonzero in
    let product = product_positive x (r some.0) positive some.2 in
    let entry = entries some.0 some.1 in
    (some.0, some.1, omega arith))
    (λ j q k. joined_old _ _ _ _ _ _ x y (weighted_join m.rows (λ i. positive_at m i j) p r s x y entries) (weighted_join m.rows (λ i. negative_at m i j) p r s x y entries) (r_flow.balanced j q k) (s_flow.balanced j q k))
    (joined_new _ _ _ _ _ _ x y a b (weighted_join m.rows (λ i. positive_at m i c) p r s x y entries) (weighted_join m.rows (λ i. negative_at m i c) p r s x y entries) r_over s_under cancels)

pub zero_factor : (h d : ℕ) → 0 < h * d → 0 < d
zero_factor h zero some = absurd (omega arith)
zero_factor h (suc d) some = omega arith

-- quotients by a common divisor
pub divided_semiflow : (m : Matrix) (K : ℕ → Type 0) (p d : ℕ → ℕ) (h : ℕ) → 0 < h → ((i : ℕ) → i < m.rows → p i ≡ h * d i) → IsSemiflow m K p → IsSemiflow m K d
divided_semiflow m K p d h positive entries flow = record {
  nonzero =
      let some = flow.nonzero in
      let entry = entries some.0 some.1 in
      let inside = some.2 in
      (some.0, some.1, zero_factor h (d some.0) (omega arith));
  balanced = λ j q k.
      eq_of_mul-eq-mul_left h positive _ _
      (sym (weighted_scale m.rows (λ i. positive_at m i j) p d h entries) ∙ flow.balanced j q k ∙ weighted_scale m.rows (λ i. negative_at m i j) p d h entries);
}

-- by the greatest one: coprime
pub divided_coprime : (m : Matrix) (p d : ℕ → ℕ) (h : ℕ) → 0 < h → ((i : ℕ) → i < m.rows → p i ≡ h * d i) → ((e : ℕ) → ((i : ℕ) → i < m.rows → e ∣ p i) → e ∣ h) → IsCoprime m d
divided_coprime m p d h positive entries greatest e divides =
    let whole : h * e ∣ h = greatest (h * e) (λ i under. subst (λ (z : ℕ). h * e ∣ z) (sym (entries i under)) (mul-dvd-mul_left e h (divides i under))) in
    let one : h * e ∣ h * 1 = subst (λ (z : ℕ). h * e ∣ z) (omega arith) whole in
    eq-one_of_dvd-one (dvd_of_mul-dvd-mul_left e {n = 1} positive one)

pub below_trans : (m : Matrix) (pool : List (List ℕ)) (y z : ℕ → ℕ) → HasBelow m pool y → IsWithin m y z → HasBelow m pool z
below_trans m pool y z has within = (has.0, has.1, has.2, has.3, λ i under some. within i under (has.4 i under some))
