-- Subtraction by the least ratio: for y and r, take the position where y/r is least over the support of r,
-- and subtract from a multiple of y the multiple of r that makes the entry there 0. No entry becomes
-- negative, and the support of what is left lacks that position.
use Rattle.std.proofs.Common.{◌≡◌, ◌⊎◌, sym, ap, ◌∙◌, subst, ℕ, zero, suc, ◌+◌, ◌-◌, ◌*◌, ◌<◌, ◌≤◌, min, inl, inr, arith}
use Rattle.std.proofs.lemmas.Bool.{cases_lt}
use Rattle.std.proofs.Math.Nat.{le_of_mul-le-mul_left, mul-le-mul_left}
use Rattle.incidence.specs.Sums.{sum_below}

-- the number of positions with a positive entry
abbrev pub support_size : ℕ → (ℕ → ℕ) → ℕ
support_size n y = sum_below n (λ i. min 1 (y i))

min_le : (a b : ℕ) → (0 < a → 0 < b) → min 1 a ≤ min 1 b
min_le zero b h = omega arith
min_le (suc a) b h = let some : 0 < b = h (omega arith) in omega arith

size_le : (n : ℕ) (z y : ℕ → ℕ) → ((i : ℕ) → i < n → 0 < z i → 0 < y i) → support_size n z ≤ support_size n y
size_le zero z y within = omega arith
size_le (suc n) z y within =
    let rest : support_size n z ≤ support_size n y = size_le n z y (λ i under. within i (omega arith)) in
    let last : min 1 (z n) ≤ min 1 (y n) = min_le (z n) (y n) (within n (omega arith)) in
    omega arith

-- a support in another that lacks a position of it is smaller
pub size_lt : (n : ℕ) (z y : ℕ → ℕ) (at : ℕ) → ((i : ℕ) → i < n → 0 < z i → 0 < y i) → at < n → z at ≡ 0 → 0 < y at → support_size n z < support_size n y
size_lt zero z y at within below lacks has = absurd (omega arith)
size_lt (suc n) z y at within below lacks has =
    elim (cases_lt at n) [
      | inl front ↦
          let rest : support_size n z < support_size n y = size_lt n z y at (λ i under. within i (omega arith)) front lacks has in
          let last : min 1 (z n) ≤ min 1 (y n) = min_le (z n) (y n) (within n (omega arith)) in
          omega arith
      | inr back ↦
          let rest : support_size n z ≤ support_size n y = size_le n z y (λ i under. within i (omega arith)) in
          let same : at ≡ n = omega arith in
          let none : z n ≡ 0 = sym (ap z same) ∙ lacks in
          let some : y at ≡ y n = ap y same in
          omega arith
    ]

pub record LeastRatio (n : ℕ) (y r : ℕ → ℕ) : Type 0 where
  pub at : ℕ
  pub below : at < n
  pub positive : 0 < r at
  pub least : (i : ℕ) → i < n → y at * r i ≤ r at * y i

-- y n / r n at most y a / r a, and that at most y i / r i
ratio_trans : (yn rn ya ra yi ri : ℕ) → yn * ra ≤ rn * ya → ya * ri ≤ ra * yi → 0 < ra → yn * ri ≤ rn * yi
ratio_trans yn rn ya ra yi ri first second positive =
    let one : ri * (yn * ra) ≤ ri * (rn * ya) = mul-le-mul_left ri first in
    let two : rn * (ya * ri) ≤ rn * (ra * yi) = mul-le-mul_left rn second in
    let both : ra * (yn * ri) ≤ ra * (rn * yi) = omega arith in
    le_of_mul-le-mul_left both positive

below_or_last : (n : ℕ) (P : ℕ → Type 0) → ((i : ℕ) → i < n → P i) → P n → (i : ℕ) → i < suc n → P i
below_or_last n P front last i under =
    elim (cases_lt i n) [
      | inl below ↦ front i below
      | inr above ↦ let same : n ≡ i = omega arith in subst P same last
    ]

none_le : (a b x : ℕ) → b ≡ 0 → a * b ≤ x
none_le a b x none = let product : a * b ≡ a * 0 = ap (λ z. a * z) none in omega arith

some_left : (a b x : ℕ) → x < a * b → 0 < a
some_left zero b x h = absurd (omega arith)
some_left (suc a) b x h = omega arith

pub least_ratio : (n : ℕ) (y r : ℕ → ℕ) → ((i : ℕ) → i < n → r i ≡ 0) ⊎ LeastRatio n y r
least_ratio zero y r = inl (λ i under. absurd (omega arith))
least_ratio (suc n) y r =
    elim (least_ratio n y r) [
      | inl none ↦ elim (cases_lt 0 (r n)) [
        | inl some ↦ inr record {
          at = n;
          below = omega arith;
          positive = some;
          least = below_or_last n (λ i. y n * r i ≤ r n * y i) (λ i under. none_le (y n) (r i) _ (none i under)) (omega arith);
        }
        | inr last ↦ inl (below_or_last n (λ i. r i ≡ 0) none (omega arith))
      ]
      | inr l ↦ elim (cases_lt (y n * r l.at) (r n * y l.at)) [
        | inl smaller ↦
            inr record {
              at = n;
              below = omega arith;
              positive = some_left (r n) (y l.at) _ smaller;
              least = below_or_last n (λ i. y n * r i ≤ r n * y i) (λ i under. ratio_trans (y n) (r n) (y l.at) (r l.at) (y i) (r i) (omega arith) (l.least i under) l.positive) (omega arith);
            }
        | inr larger ↦ inr record {
          at = l.at;
          below = let under = l.below in omega arith;
          positive = l.positive;
          least = below_or_last n (λ i. y l.at * r i ≤ r l.at * y i) l.least (omega arith);
        }
      ]
    ]

-- what is left of y when r is subtracted by the least ratio
pub record Reduced (n : ℕ) (y r : ℕ → ℕ) : Type 0 where
  pub at : ℕ
  pub below : at < n
  pub positive : 0 < r at
  pub rest : ℕ → ℕ
  pub splits : (i : ℕ) → i < n → rest i + y at * r i ≡ r at * y i
  pub lacks : rest at ≡ 0
  pub within : (i : ℕ) → i < n → 0 < rest i → 0 < y i

rest_within : (a b ri y : ℕ) → 0 < a * y - b * ri → 0 < y
rest_within a b ri zero some = absurd (omega arith)
rest_within a b ri (suc y) some = omega arith

pub reduced : (n : ℕ) (y r : ℕ → ℕ) → (i : ℕ) → i < n → 0 < r i → Reduced n y r
reduced n y r i under some =
    elim (least_ratio n y r) [
      | inl none ↦ let here = none i under in absurd (omega arith)
      | inr l ↦ record {
        at = l.at;
        below = l.below;
        positive = l.positive;
        rest = λ i. r l.at * y i - y l.at * r i;
        splits = λ i under. let least = l.least i under in omega arith;
        lacks = omega arith;
        within = λ i under some. rest_within (r l.at) (y l.at) (r i) (y i) some;
      }
    ]

-- it has a smaller support where r is in y
pub reduced_size : (n : ℕ) (y r : ℕ → ℕ) (d : Reduced n y r) → ((i : ℕ) → i < n → 0 < r i → 0 < y i) → support_size n d.rest < support_size n y
reduced_size n y r d inside = size_lt n d.rest y d.at d.within d.below d.lacks (inside d.at d.below d.positive)
