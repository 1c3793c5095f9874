use Rattle.std.proofs.Common.{get_or, arith}
use Rattle.incidence.proofs.TableLemmas.{amount_within}
use Rattle.incidence.proofs.sparse.SparseTable.add_row.Goals as goal

pub add-requires-clause-narrow : goal.add-requires-clause-narrow
add-requires-clause-narrow c =
    let row = (get_or c.args.amounts.now c.loop-entry.entry-index record { row = 0; amount = 0 }).row in
    omega (arith, amount_within c.args.amounts.now c.loop-entry.entry-index record { row = 0; amount = 0 } c.loop-entry-test.true, c.loop-entry.invariant.here row, c.requires.narrow row)
