use Rattle.std.proofs.Common.{◌≡◌, ℕ, List, false, take}
use Rattle.std.specs.List.{list_any}
use Rattle.support_prune.specs.Supports.{is_within}
use Rattle.support_prune.proofs.pool.has_within.Given as goal

abbrev pub invariant-loop-i : goal.invariant-loop-i
invariant-loop-i l = list_any (λ (other : List ℕ). is_within other l.row) (take l.i l.kept) ≡ false
