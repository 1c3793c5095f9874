-- Weighted sums are linear: what holds of the entries of vectors holds of their sums with any weights. By
-- induction on the number of entries.
use Rattle.std.proofs.Common.{◌≡◌, refl, ap, ◌∙◌, ℕ, zero, suc, ◌+◌, ◌*◌, ◌<◌, inl, inr, arith}
use Rattle.std.specs.Prelude.{◌⊎◌}
use Rattle.std.proofs.lemmas.Bool.{cases_lt}
use Rattle.incidence.specs.Sums.{sum_below}

abbrev pub weighted : ℕ → (ℕ → ℕ) → (ℕ → ℕ) → ℕ
weighted n f y = sum_below n (λ i. y i * f i)

pub weighted_split : (n : ℕ) (f z r y : ℕ → ℕ) (a b : ℕ) → ((i : ℕ) → i < n → z i + b * r i ≡ a * y i) → weighted n f z + b * weighted n f r ≡ a * weighted n f y
weighted_split zero f z r y a b each = omega arith
weighted_split (suc n) f z r y a b each =
    let rest : weighted n f z + b * weighted n f r ≡ a * weighted n f y = weighted_split n f z r y a b (λ i under. each i (omega arith)) in
    let last : (z n + b * r n) * f n ≡ (a * y n) * f n = ap (λ x. x * f n) (each n (omega arith)) in
    omega arith

pub weighted_join : (n : ℕ) (f p r s : ℕ → ℕ) (a b : ℕ) → ((i : ℕ) → i < n → p i ≡ a * r i + b * s i) → weighted n f p ≡ a * weighted n f r + b * weighted n f s
weighted_join zero f p r s a b each = omega arith
weighted_join (suc n) f p r s a b each =
    let rest : weighted n f p ≡ a * weighted n f r + b * weighted n f s = weighted_join n f p r s a b (λ i under. each i (omega arith)) in
    let last : p n * f n ≡ (a * r n + b * s n) * f n = ap (λ x. x * f n) (each n (omega arith)) in
    omega arith

pub weighted_scale : (n : ℕ) (f p d : ℕ → ℕ) (h : ℕ) → ((i : ℕ) → i < n → p i ≡ h * d i) → weighted n f p ≡ h * weighted n f d
weighted_scale zero f p d h each = omega arith
weighted_scale (suc n) f p d h each =
    let rest : weighted n f p ≡ h * weighted n f d = weighted_scale n f p d h (λ i under. each i (omega arith)) in
    let last : p n * f n ≡ (h * d n) * f n = ap (λ x. x * f n) (each n (omega arith)) in
    omega arith

last_too : (n : ℕ) (z : ℕ → ℕ) → ((i : ℕ) → i < n → z i ≡ 0) → z n ≡ 0 → (i : ℕ) → i < suc n → z i ≡ 0
last_too n z none last i under =
    elim (cases_lt i n) [
      | inl below ↦ none i below
      | inr above ↦ let same : i ≡ n = omega arith in ap z same ∙ last
    ]

-- every entry is 0, or some is positive
pub none_or_some : (n : ℕ) (z : ℕ → ℕ) → ((i : ℕ) → i < n → z i ≡ 0) ⊎ ((i : ℕ) × (i < n) × (0 < z i))
none_or_some zero z = inl (λ i under. absurd (omega arith))
none_or_some (suc n) z =
    elim (none_or_some n z) [
      | inl none ↦ elim (cases_lt 0 (z n)) [
        | inl some ↦ inr (n, omega arith, some)
        | inr last ↦ inl (λ i under. last_too n z none (omega arith) i under)
      ]
      | inr some ↦ inr (some.0, omega (arith, some.1), some.2)
    ]

-- where a weighted sum is positive, some entry is
pub weighted_none : (n : ℕ) (f z : ℕ → ℕ) → ((i : ℕ) → i < n → z i ≡ 0) → weighted n f z ≡ 0
weighted_none zero f z none = refl
weighted_none (suc n) f z none =
    let rest : weighted n f z ≡ 0 = weighted_none n f z (λ i under. none i (omega arith)) in
    let last : z n * f n ≡ 0 * f n = ap (λ x. x * f n) (none n (omega arith)) in
    omega arith

pub some_entry : (n : ℕ) (f z : ℕ → ℕ) → 0 < weighted n f z → (i : ℕ) × (i < n) × (0 < z i)
some_entry n f z positive =
    elim (none_or_some n z) [
      | inl none ↦ let zero_sum = weighted_none n f z none in absurd (omega arith)
      | inr some ↦ some
    ]
