use Rattle.std.proofs.Common.{◌≡◌, ℕ, ◌<◌, ◌≤◌, length}
use Rattle.incidence.specs.Tables.{at}
use Rattle.incidence.proofs.sparse.SparseTable.transpose.Given as goal

abbrev pub invariant-loop-column : goal.invariant-loop-column
invariant-loop-column l = record {
  height : l.turned.height ≡ length l.self.lists;
  width : length l.turned.lists ≡ l.self.height;
  done : (i j : ℕ) → j < l.column → at l.turned j i ≡ at l.self i j;
  rest : (i j : ℕ) → l.column ≤ j → at l.turned j i ≡ 0;
}
