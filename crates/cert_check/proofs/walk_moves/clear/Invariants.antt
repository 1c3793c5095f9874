use Rattle.std.proofs.Common.{◌≡◌, ℕ, ◌<◌, false, length}
use Rattle.net_values.specs.PlaceSets.{has}
use Rattle.cert_check.proofs.walk_moves.clear.Given as goal

abbrev pub invariant-loop-p : goal.invariant-loop-p
invariant-loop-p l = (length l.set ≡ length l.fn.set) × ((q : ℕ) → q < l.p → has l.set q ≡ false)
