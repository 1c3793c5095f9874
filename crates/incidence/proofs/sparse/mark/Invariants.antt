use Rattle.std.proofs.Common.{◌≡◌, ℕ, false, length, take}
use Rattle.net_values.specs.PlaceSets.{has}
use Rattle.incidence.specs.Tables.{amount_at}
use Rattle.incidence.proofs.sparse.mark.Given as goal

abbrev pub invariant-loop-entry : goal.invariant-loop-entry
invariant-loop-entry l = record {
  size : length l.rows ≡ length l.initial.rows;
  marked : (i : ℕ) → has l.rows i ≡ false → amount_at (take l.entry-index l.amounts) i ≡ 0;
  kept : (i : ℕ) → has l.rows i ≡ false → has l.initial.rows i ≡ false;
}
