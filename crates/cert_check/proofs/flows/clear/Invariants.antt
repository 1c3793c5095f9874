use Rattle.std.proofs.Common.{◌≡◌, ℕ, ◌<◌, length, slice_index}
use Rattle.cert_check.proofs.flows.clear.Given as goal

abbrev pub invariant-loop-p : goal.invariant-loop-p
invariant-loop-p l = (length l.y ≡ length l.fn.y) × ((q : ℕ) → q < l.p → slice_index l.y q ≡ 0)
