use Rattle.std.proofs.Common.{◌≡◌, ℕ, ◌<◌, get_or}
use Rattle.semiflow_elim.proofs.CarriedSums.{no_sums}
use Rattle.semiflow_elim.proofs.carried.find_sums.Given as goal

abbrev pub invariant-loop-own : goal.invariant-loop-own
invariant-loop-own l = (i : ℕ) → i < l.own-index → (get_or l.sums i (no_sums l.column)).column ≡ l.column → ⊥
