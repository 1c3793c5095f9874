-- A number that divides x times each entry of a vector divides x times their greatest common divisor: by
-- Euclid's algorithm for two numbers, and by induction for a vector. So proportional vectors with coprime
-- entries are equal.
use Rattle.std.proofs.Common.{◌≡◌, sym, ap, ◌∙◌, subst, ℕ, zero, suc, ◌+◌, ◌*◌, ◌/◌, ◌%◌, ◌<◌, inl, inr, arith}
use Rattle.std.specs.Int.{◌∣◌, IsGcd}
use Rattle.std.proofs.lemmas.Bool.{cases_lt, cases_eq}
use Rattle.std.proofs.lemmas.Nat.Gcd.{dvd_antisymm, dvd-zero, dvd_trans, IsGcd-from_mod, IsGcd-from_zero}
use Rattle.std.proofs.Math.Nat.{dvd-add_iff_right, dvd-mul_right, dvd-mul_right_of_dvd, div-add-mod, mod-lt, eq_of_mul-eq-mul_left}
use Rattle.incidence.specs.Matrix.{Matrix}
use Rattle.incidence.specs.Semiflow.{IsCoprime}

pub record GcdScales (a b : ℕ) : Type 0 where
  pub divisor : ℕ
  pub gcd : IsGcd a b divisor
  pub scales : (d x : ℕ) → d ∣ x * a → d ∣ x * b → d ∣ x * divisor

-- x * (a % b) is x * a without a multiple of x * b
remainder_scaled : (d x a b : ℕ) → d ∣ x * a → d ∣ x * b → d ∣ x * (a % b)
remainder_scaled d x a b first second =
    let split : x * b * (a / b) + x * (a % b) ≡ x * a = let whole = ap (λ z. x * z) (div-add-mod a b) in omega (arith, whole) in
    let front : d ∣ x * b * (a / b) = dvd-mul_right_of_dvd d second (a / b) in
    let whole : d ∣ x * b * (a / b) + x * (a % b) = subst (λ (z : ℕ). d ∣ z) (sym split) first in
    (dvd-add_iff_right d {m = x * b * (a / b)} {n = x * (a % b)} front).1 whole

pub gcd_scales : (size a b : ℕ) → b < size → GcdScales a b
gcd_scales zero a b small = absurd (omega arith)
gcd_scales (suc size) a b small =
    elim (cases_eq b 0) [
      | inl none ↦ record {
        divisor = a;
        gcd = IsGcd-from_zero a b none;
        scales = λ d x first second. first;
      }
      | inr some ↦
          let below : a % b < b = mod-lt a {m = b} (omega arith) in
          let deeper = gcd_scales size b (a % b) (omega arith) in
          record {
            divisor = deeper.divisor;
            gcd = IsGcd-from_mod a b deeper.divisor deeper.gcd;
            scales = λ d x first second. deeper.scales d x second (remainder_scaled d x a b first second);
          }
    ]

-- the greatest common divisor of the entries of a vector
pub record GcdOfAll (n : ℕ) (p : ℕ → ℕ) : Type 0 where
  pub divisor : ℕ
  pub divides : (i : ℕ) → i < n → divisor ∣ p i
  pub scales : (d x : ℕ) → ((i : ℕ) → i < n → d ∣ x * p i) → d ∣ x * divisor

divides_last : (n : ℕ) (p : ℕ → ℕ) (d : ℕ) → ((i : ℕ) → i < n → d ∣ p i) → d ∣ p n → (i : ℕ) → i < suc n → d ∣ p i
divides_last n p d front last i under =
    elim (cases_lt i n) [
      | inl below ↦ front i below
      | inr above ↦ let same : n ≡ i = omega arith in subst (λ (k : ℕ). d ∣ p k) same last
    ]

pub gcd_of_all : (n : ℕ) (p : ℕ → ℕ) → GcdOfAll n p
gcd_of_all zero p = record {
  divisor = 0;
  divides = λ i under. absurd (omega arith);
  scales = λ d x each. let none : x * 0 ≡ 0 = omega arith in subst (λ (z : ℕ). d ∣ z) (sym none) (dvd-zero d);
}
gcd_of_all (suc n) p =
    let front = gcd_of_all n p in
    let both = gcd_scales (suc (p n)) front.divisor (p n) (omega arith) in
    record {
      divisor = both.divisor;
      divides = divides_last n p both.divisor (λ i under. dvd_trans both.divisor both.gcd.0 (front.divides i under)) both.gcd.1;
      scales = λ d x each. both.scales d x (front.scales d x (λ i under. each i (omega arith))) (each n (omega arith));
    }

-- Euclid's lemma for a vector
pub coprime_divides : (m : Matrix) (p : ℕ → ℕ) → IsCoprime m p → (d x : ℕ) → ((i : ℕ) → i < m.rows → d ∣ x * p i) → d ∣ x
coprime_divides m p coprime d x each =
    let all = gcd_of_all m.rows p in
    let one : all.divisor ≡ 1 = coprime all.divisor all.divides in
    let same : x * all.divisor ≡ x = ap (λ z. x * z) one ∙ omega arith in
    subst (λ (z : ℕ). d ∣ z) same (all.scales d x each)

pub coprime_same : (m : Matrix) (p y : ℕ → ℕ) (a b : ℕ) → IsCoprime m p → IsCoprime m y → 0 < a → ((i : ℕ) → i < m.rows → b * p i ≡ a * y i) → (i : ℕ) → i < m.rows → p i ≡ y i
coprime_same m p y a b p_coprime y_coprime positive same i under =
    let ab : a ∣ b = coprime_divides m p p_coprime a b (λ i under. subst (λ (z : ℕ). a ∣ z) (sym (same i under)) (dvd-mul_right a (y i))) in
    let ba : b ∣ a = coprime_divides m y y_coprime b a (λ i under. subst (λ (z : ℕ). b ∣ z) (same i under) (dvd-mul_right b (p i))) in
    let equal : a ≡ b = dvd_antisymm ab ba in
    eq_of_mul-eq-mul_left a positive (p i) (y i) (ap (λ z. z * p i) equal ∙ same i under)
