-- Transport to one more column: where a list has a member below each semiflow over K, a semiflow over K
-- whose two sums at a column are equal has a member with equal sums below it, or one of either sign. For
-- take a member below it and subtract by the least ratio: what is left has a smaller support, and where the
-- member's sign at the column isn't the wanted one, what is left has it.
use Rattle.std.proofs.Common.{◌≡◌, ◌⊎◌, sym, ap, ℕ, zero, suc, ◌+◌, ◌*◌, ◌<◌, ◌≤◌, inl, inr, arith}
use Rattle.std.proofs.lemmas.Bool.{cases_lt, cases_order}
use Rattle.std.proofs.Math.Nat.{mul-le-mul_left, mul-lt-mul_of_pos_left}
use Rattle.incidence.specs.Matrix.{Matrix, positive_at, negative_at}
use Rattle.incidence.specs.Semiflow.{IsWithin, IsNonzero, IsSemiflow}
use Rattle.semiflow_elim.proofs.Weighted.{weighted, weighted_split, some_entry}
use Rattle.semiflow_elim.proofs.Support.{support_size, Reduced, reduced, reduced_size}

-- semiflows over K with one below each semiflow over K
pub record Covers (m : Matrix) (K : ℕ → Type 0) (Row : (ℕ → ℕ) → Type 0) : Type 0 where
  pub sound : (r : ℕ → ℕ) → Row r → IsSemiflow m K r
  pub below : (y : ℕ → ℕ) → IsSemiflow m K y → (r : ℕ → ℕ) × Row r × IsWithin m r y

-- a row below y at which the sum with f exceeds that with g
abbrev pub RowBelow : Matrix → ((ℕ → ℕ) → Type 0) → (ℕ → ℕ) → (ℕ → ℕ) → (ℕ → ℕ) → Type 0
RowBelow m Row f g y = (r : ℕ → ℕ) × Row r × IsWithin m r y × (weighted m.rows g r < weighted m.rows f r)

abbrev pub ZeroBelow : Matrix → ((ℕ → ℕ) → Type 0) → (ℕ → ℕ) → (ℕ → ℕ) → (ℕ → ℕ) → Type 0
ZeroBelow m Row f g y = (r : ℕ → ℕ) × Row r × IsWithin m r y × (weighted m.rows f r ≡ weighted m.rows g r)

rest_positive : (fz gz fr gr fy gy a b : ℕ) → fz + b * fr ≡ a * fy → gz + b * gr ≡ a * gy → fr ≤ gr → gy < fy → 0 < a → gz < fz
rest_positive fz gz fr gr fy gy a b f_is g_is below above positive =
    let one : b * fr ≤ b * gr = mul-le-mul_left b below in
    let two : a * gy < a * fy = mul-lt-mul_of_pos_left above positive in
    omega arith

rest_negative : (fz gz fr gr fy gy a b : ℕ) → fz + b * fr ≡ a * fy → gz + b * gr ≡ a * gy → gr < fr → fy ≡ gy → 0 < b → fz < gz
rest_negative fz gz fr gr fy gy a b f_is g_is above same positive =
    let one : b * gr < b * fr = mul-lt-mul_of_pos_left above positive in
    let two : a * fy ≡ a * gy = ap (λ x. a * x) same in
    omega arith

rest_balanced : (fz gz fr gr fy gy a b : ℕ) → fz + b * fr ≡ a * fy → gz + b * gr ≡ a * gy → fr ≡ gr → fy ≡ gy → fz ≡ gz
rest_balanced fz gz fr gr fy gy a b f_is g_is row whole =
    let one : b * fr ≡ b * gr = ap (λ x. b * x) row in
    let two : a * fy ≡ a * gy = ap (λ x. a * x) whole in
    omega arith

-- what is left of a semiflow is a semiflow, where it isn't zero
pub rest_semiflow : (m : Matrix) (K : ℕ → Type 0) (y r : ℕ → ℕ) (d : Reduced m.rows y r) → IsSemiflow m K y → IsSemiflow m K r → IsNonzero m d.rest → IsSemiflow m K d.rest
rest_semiflow m K y r d whole row some = record {
  nonzero = some;
  balanced = λ j p k.
      rest_balanced _ _ _ _ _ _ (r d.at) (y d.at)
      (weighted_split m.rows (λ i. positive_at m i j) d.rest r y (r d.at) (y d.at) d.splits)
      (weighted_split m.rows (λ i. negative_at m i j) d.rest r y (r d.at) (y d.at) d.splits)
      (row.balanced j p k) (whole.balanced j p k);
}

module _ (m : Matrix) (K : ℕ → Type 0) (Row : (ℕ → ℕ) → Type 0) (covers : Covers m K Row) where
  -- a row of the sign of y below y
  pub row_below : (f g : ℕ → ℕ) (size : ℕ) (y : ℕ → ℕ) → IsSemiflow m K y → support_size m.rows y < size → weighted m.rows g y < weighted m.rows f y → RowBelow m Row f g y
  row_below f g zero y whole small above = absurd (omega arith)
  row_below f g (suc size) y whole small above =
      let found = covers.below y whole in
      let r = found.0 in
      let row = covers.sound r found.1 in
      elim (cases_lt (weighted m.rows g r) (weighted m.rows f r)) [
        | inl sign ↦ (r, found.1, found.2, sign)
        | inr other ↦
            let d : Reduced m.rows y r = reduced m.rows y r row.nonzero.0 row.nonzero.1 row.nonzero.2 in
            let sign : weighted m.rows g d.rest < weighted m.rows f d.rest =
            rest_positive _ _ _ _ _ _ (r d.at) (y d.at)
            (weighted_split m.rows f d.rest r y (r d.at) (y d.at) d.splits)
            (weighted_split m.rows g d.rest r y (r d.at) (y d.at) d.splits) other above d.positive
            in
            let some = some_entry m.rows f d.rest (omega arith) in
            let less = reduced_size m.rows y r d found.2 in
            let deeper = row_below f g size d.rest (rest_semiflow m K y r d whole row some) (omega arith) sign in
            (deeper.0, deeper.1, λ i under positive. d.within i under (deeper.2 i under positive), deeper.3)
      ]

  -- below a y of equal sums occurs a row of equal sums, or rows of both signs
  pub rows_below : (f g : ℕ → ℕ) (y : ℕ → ℕ) → IsSemiflow m K y → weighted m.rows f y ≡ weighted m.rows g y → ZeroBelow m Row f g y ⊎ (RowBelow m Row f g y × RowBelow m Row g f y)
  rows_below f g y whole same =
      let found = covers.below y whole in
      let r = found.0 in
      let row = covers.sound r found.1 in
      let d : Reduced m.rows y r = reduced m.rows y r row.nonzero.0 row.nonzero.1 row.nonzero.2 in
      let f_is = weighted_split m.rows f d.rest r y (r d.at) (y d.at) d.splits in
      let g_is = weighted_split m.rows g d.rest r y (r d.at) (y d.at) d.splits in
      let inside : 0 < y d.at = found.2 d.at d.below d.positive in
      elim (cases_order (weighted m.rows f r) (weighted m.rows g r)) [
        | inl zero_row ↦ inl (r, found.1, found.2, zero_row)
        | inr signed ↦ elim signed [
          | inl negative ↦
              let sign : weighted m.rows g d.rest < weighted m.rows f d.rest = rest_negative _ _ _ _ _ _ (r d.at) (y d.at) g_is f_is negative (sym same) inside in
              let some = some_entry m.rows f d.rest (omega arith) in
              let other = row_below f g (suc (support_size m.rows d.rest)) d.rest (rest_semiflow m K y r d whole row some) (omega arith) sign in
              inr ((other.0, other.1, λ i under positive. d.within i under (other.2 i under positive), other.3), (r, found.1, found.2, negative))
          | inr positive ↦
              let sign : weighted m.rows f d.rest < weighted m.rows g d.rest = rest_negative _ _ _ _ _ _ (r d.at) (y d.at) f_is g_is positive same inside in
              let some = some_entry m.rows g d.rest (omega arith) in
              let other = row_below g f (suc (support_size m.rows d.rest)) d.rest (rest_semiflow m K y r d whole row some) (omega arith) sign in
              inr ((r, found.1, found.2, positive), (other.0, other.1, λ i under more. d.within i under (other.2 i under more), other.3))
        ]
      ]
