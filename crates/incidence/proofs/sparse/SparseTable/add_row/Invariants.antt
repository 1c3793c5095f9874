use Rattle.std.proofs.Common.{take}
use Rattle.incidence.specs.Tables.{AddsRow}
use Rattle.incidence.proofs.sparse.SparseTable.add_row.Given as goal

abbrev pub invariant-loop-entry : goal.invariant-loop-entry
invariant-loop-entry l = AddsRow l.initial.self l.self l.row (take l.entry-index l.amounts)
