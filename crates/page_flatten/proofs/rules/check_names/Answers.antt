-- Each net is checked by its own table.
use Rattle.std.proofs.Common.{arith}
use Rattle.page_flatten.specs.Names.{KeepsRule, NamesBroken}
use Rattle.page_flatten.specs.Passes.{HasEntries}
use Rattle.page_flatten.proofs.FaultLaws.{err_goes}
use Rattle.page_flatten.proofs.NetLists.{each_more, zip_at, zip_length, distinct_at}
use Rattle.page_flatten.proofs.NetFaults.{broken_in}
use Rattle.page_flatten.proofs.WholeLaws.{distinct_entries}
use Rattle.page_flatten.proofs.rules.check_names.Goals as goal

pub get-requires-in-loop-k : goal.get-requires-in-loop-k
get-requires-in-loop-k c = omega (arith, c.loop-k-test.true, c.len-k-end.ensures, zip_length HasEntries c.args.nets.now c.args.tables.now c.requires.each)

pub check_items-requires : goal.check_items-requires
check_items-requires c =
    let nets = c.args.nets.now in
    let table = zip_at HasEntries nets c.args.tables.now c.loop-k.k c.get.result.now c.get-in-loop-k.result.now c.get.ensures c.get-in-loop-k.ensures c.requires.each in
    rw table (distinct_entries c.get.result.now (distinct_at nets c.loop-k.k c.get.result.now c.get.ensures c.requires.distinct))

pub returns-in_err-check_items-clause-fault : goal.returns-in_err-check_items-clause-fault
returns-in_err-check_items-clause-fault c =
    let nets = c.args.nets.now in
    let net = c.get.result.now in
    let table = zip_at HasEntries nets c.args.tables.now c.loop-k.k net c.get-in-loop-k.result.now c.get.ensures c.get-in-loop-k.ensures c.requires.each in
    err_goes (NamesBroken c.args.rule nets) c.from_residual.result _ c.from_residual.ensures.1
    (broken_in nets c.loop-k.k net c.get.ensures c.args.rule c.loop-k.invariant _ (rw (table, c.as_slice.ensures) at c.in_err-check_items.ensures.fault))

pub loop-k-preserved : goal.loop-k-preserved
loop-k-preserved c =
    let nets = c.args.nets.now in
    let net = c.get.result.now in
    let table = zip_at HasEntries nets c.args.tables.now c.loop-k.k net c.get-in-loop-k.result.now c.get.ensures c.get-in-loop-k.ensures c.requires.each in
    each_more (KeepsRule c.args.rule) nets c.loop-k.k net c.get.ensures c.loop-k.invariant (rw (table, c.as_slice.ensures) at c.in_ok-check_items.ensures.ok)
