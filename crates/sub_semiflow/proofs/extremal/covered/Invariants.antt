use Rattle.std.proofs.Common.{◌≡◌, false, All, take, slice_index}
use Rattle.std.specs.Prelude.{nat_lt}
use Rattle.sub_semiflow.proofs.extremal.covered.Given as goal

abbrev pub invariant-loop-row : goal.invariant-loop-row
invariant-loop-row l = All (λ row. nat_lt 0 (slice_index row l.p) ≡ false) (take l.row-index l.rows)
