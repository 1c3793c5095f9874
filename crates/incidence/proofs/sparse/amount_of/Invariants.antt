use Rattle.std.proofs.Common.{◌≡◌, take}
use Rattle.incidence.specs.Tables.{amount_at}
use Rattle.incidence.proofs.sparse.amount_of.Given as goal

abbrev pub invariant-loop-entry : goal.invariant-loop-entry
invariant-loop-entry l = l.total ≡ amount_at (take l.entry-index l.amounts) l.row
