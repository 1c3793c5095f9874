-- Two narrow sums as signed numbers are the two sums. Where at most one of the two numbers of each entry is
-- positive, that number is the entry's positive or negative part.
use Rattle.std.proofs.Common.{◌≡◌, sym, ap, ◌∙◌, subst, ℕ, zero, suc, ℤ, pos, ◌*◌, ◌-◌, ◌^◌, ◌<◌, to_z, arith}
use Rattle.std.specs.Int.{w128}
use Rattle.std.proofs.lemmas.Int.{to_z_pos}
use Rattle.incidence.specs.Matrix.{Matrix, AreNarrow, gain_sum, loss_sum, positive_at, negative_at}
use Rattle.incidence.specs.Sums.{sum_below}
use Rattle.incidence.proofs.Below.{below_same}

-- the sums over the two numbers of each entry
abbrev pub sum_of_gains : Matrix → ℕ → (ℕ → ℕ) → ℕ
sum_of_gains m j y = sum_below m.rows (λ i. y i * m.gain i j)

abbrev pub sum_of_losses : Matrix → ℕ → (ℕ → ℕ) → ℕ
sum_of_losses m j y = sum_below m.rows (λ i. y i * m.loss i j)

whole : (a b : ℕ) → a * b ≡ 0 → a - b ≡ a
whole a zero apart = omega arith
whole zero (suc b) apart = omega arith
whole (suc a) (suc b) apart = absurd (omega arith)

whole_too : (a b : ℕ) → a * b ≡ 0 → b - a ≡ b
whole_too a b apart = whole b a (omega arith)

module _ (m : Matrix) (j : ℕ) (y : ℕ → ℕ) (apart : (i : ℕ) → m.gain i j * m.loss i j ≡ 0) where
  gains_are : sum_of_gains m j y ≡ gain_sum m j y
  gains_are = below_same m.rows (λ i. y i * m.gain i j) (λ i. y i * positive_at m i j) (λ i under. ap (λ x. y i * x) (sym (whole (m.gain i j) (m.loss i j) (apart i))))

  losses_are : sum_of_losses m j y ≡ loss_sum m j y
  losses_are = below_same m.rows (λ i. y i * m.loss i j) (λ i. y i * negative_at m i j) (λ i under. ap (λ x. y i * x) (sym (whole_too (m.gain i j) (m.loss i j) (apart i))))

  pub narrow_gains : AreNarrow m j y → sum_of_gains m j y < 2 ^ 127
  narrow_gains narrow = omega (arith, gains_are, narrow.gain)

  pub narrow_losses : AreNarrow m j y → sum_of_losses m j y < 2 ^ 127
  narrow_losses narrow = omega (arith, losses_are, narrow.loss)

  pub sums_given : (gain loss : ℕ) → (sum_of_gains m j y < 2 ^ 127) × (gain ≡ sum_of_gains m j y) → (sum_of_losses m j y < 2 ^ 127) × (loss ≡ sum_of_losses m j y) → AreNarrow m j y × (◌≡◌ {A = ℤ × ℤ} (to_z w128 gain, to_z w128 loss) (pos (gain_sum m j y), pos (loss_sum m j y)))
  sums_given gain loss g l =
      let first : to_z w128 gain ≡ pos (gain_sum m j y) = to_z_pos w128 gain (omega (arith, g.0, g.1)) ∙ ap pos (g.1 ∙ gains_are) in
      let second : to_z w128 loss ≡ pos (loss_sum m j y) = to_z_pos w128 loss (omega (arith, l.0, l.1)) ∙ ap pos (l.1 ∙ losses_are) in
      let P : ℕ → Type 0 = λ n. n < 2 ^ 127 in
      (record { gain = subst P gains_are g.0; loss = subst P losses_are l.0 }, cc)
