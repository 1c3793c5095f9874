use Rattle.std.proofs.Common.{◌≡◌, ◌*◌, ap, ℕ, get_or, slice_index, arith}
use Rattle.std.proofs.lemmas.List.Sums.{sum_by_more_le}
use Rattle.std.proofs.lemmas.Result.{err_from_is_err_and}
use Rattle.incidence.specs.declared.sparse.Amount.{Amount}
use Rattle.incidence.proofs.sparse.weighted_total.Goals as goal

-- a part of the sum that is wide makes the whole wide
pub returns-in_err-total : goal.returns-in_err-total
returns-in_err-total c =
    let e = get_or c.args.amounts.now c.loop-entry.entry-index record { row = 0; amount = 0 } in
    let read : c.entry_at.result * e.amount ≡ slice_index c.args.factors.now e.row * e.amount = ap (λ (x : ℕ). x * e.amount) c.entry_at.ensures.value in
    let p = err_from_is_err_and c.from_residual.result c.from_residual.ensures.1 in
    rw (p.1) (λ narrow. c.in_err-total.ensures (omega (arith, read, sum_by_more_le (λ (entry : Amount). slice_index c.args.factors.now entry.row * entry.amount) c.args.amounts.now c.loop-entry.entry-index record { row = 0; amount = 0 } c.loop-entry-test.true, narrow)))
