use Rattle.std.proofs.Common.{◌≡◌, sym, subst, ℕ, ℤ, pos, to_z, ◌*◌, ◌^◌, ◌<◌, slice_index}
use Rattle.std.specs.Int.{w128}
use Rattle.std.proofs.lemmas.Result.{err_from_is_err_and}
use Rattle.incidence.specs.Matrix.{AreNarrow, gain_sum, loss_sum}
use Rattle.incidence.specs.Sums.{sum_below}
use Rattle.incidence.specs.Tables.{Tables, matrix_of, at}
use Rattle.incidence.proofs.SumLemmas.{narrow_gains, narrow_losses, sums_given}
use Rattle.incidence.proofs.incidence.Incidence.sums.Goals as goal

pub returns : goal.returns
returns c =
    let inside = c.self.inside in
    let tables : Tables = record { gains = inside.gains; losses = inside.losses } in
    let m = matrix_of tables in
    let j = c.args.column in
    let y = slice_index c.args.y.now in
    let High : ℕ → Type 0 = λ height. (sum_below height (λ i. y i * at inside.losses i j) < 2 ^ 127) × (c.in_ok-loss.loss ≡ sum_below height (λ i. y i * at inside.losses i j)) in
    let Both : Tables → Type 0 = λ t. AreNarrow (matrix_of t) j y × (◌≡◌ {A = ℤ × ℤ} (to_z w128 c.in_ok-gain.gain, to_z w128 c.in_ok-loss.loss) (pos (gain_sum (matrix_of t) j y), pos (loss_sum (matrix_of t) j y))) in
    subst Both c.self.view_is
    (sums_given m j y (λ i. c.self.invariant.apart i j) _ _ c.in_ok-gain.ensures (subst High c.self.invariant.height c.in_ok-loss.ensures))

-- a sum that is wide isn't narrow
narrow_seen : (tables seen : Tables) (j : ℕ) (y : ℕ → ℕ) → tables ≡ seen → AreNarrow (matrix_of seen) j y → AreNarrow (matrix_of tables) j y
narrow_seen tables seen j y is narrow = subst (λ (t : Tables). AreNarrow (matrix_of t) j y) (sym is) narrow

pub returns-in_err-gain : goal.returns-in_err-gain
returns-in_err-gain c =
    let wide = (err_from_is_err_and c.from_residual.result c.from_residual.ensures.1).1 in
    rw (wide) (λ narrow. c.in_err-gain.ensures (narrow_gains _ c.args.column _ (λ i. c.self.invariant.apart i c.args.column) (narrow_seen _ _ _ _ c.self.view_is narrow)))

pub returns-in_err-loss : goal.returns-in_err-loss
returns-in_err-loss c =
    let y = slice_index c.args.y.now in
    let High : ℕ → Type 0 = λ height. sum_below height (λ i. y i * at c.self.inside.losses i c.args.column) < 2 ^ 127 in
    let wide = (err_from_is_err_and c.from_residual-in_err-loss.result c.from_residual-in_err-loss.ensures.1).1 in
    rw (wide) (λ narrow. c.in_err-loss.ensures (subst High (sym c.self.invariant.height) (narrow_losses _ c.args.column y (λ i. c.self.invariant.apart i c.args.column) (narrow_seen _ _ _ _ c.self.view_is narrow))))
