use Rattle.std.proofs.Common.{◌≡◌, ◌*◌, ◌<◌, ◌^◌, slice_index, sum_by, take}
use Rattle.incidence.specs.declared.sparse.Amount.{Amount}
use Rattle.incidence.proofs.sparse.weighted_total.Given as goal

abbrev pub invariant-loop-entry : goal.invariant-loop-entry
invariant-loop-entry l = record {
  total : l.total ≡ sum_by (λ (entry : Amount). slice_index l.factors entry.row * entry.amount) (take l.entry-index l.amounts);
  narrow : l.total < 2 ^ 127;
}
