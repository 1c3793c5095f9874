-- Each net is flattened by its own table and links, and the one of the number is kept.
use Rattle.std.proofs.Common.{arith}
use Rattle.page_flatten.specs.Rules.{JoinsArcs}
use Rattle.page_flatten.specs.Passes.{HasEntries, FitsLimits, NamesMisjoined}
use Rattle.page_flatten.specs.Tables.{AreSettled}
use Rattle.page_flatten.proofs.FaultLaws.{err_goes}
use Rattle.page_flatten.proofs.NetLists.{each_more, each_at, zip_at, zip_length, distinct_at}
use Rattle.page_flatten.proofs.NetFaults.{misjoined_in}
use Rattle.page_flatten.proofs.NetChoice.{chosen_here, chosen_elsewhere}
use Rattle.page_flatten.proofs.flattening.chosen_net.Goals as goal
use Rattle.page_flatten.proofs.flattening.chosen_net.Goals.{then-k-number, else-k-number}

pub get-requires-in-loop-k : goal.get-requires-in-loop-k
get-requires-in-loop-k c = omega (arith, c.loop-k-test.true, c.len-k-end.ensures, zip_length HasEntries c.args.nets.now c.args.tables.now c.requires.numbered.each)

pub get-requires-in-loop-k-2 : goal.get-requires-in-loop-k-2
get-requires-in-loop-k-2 c = omega (arith, c.loop-k-test.true, c.len-k-end.ensures, zip_length AreSettled c.args.nets.now c.args.links.now c.requires.settled)

pub flat_net-requires-clause-numbered : goal.flat_net-requires-clause-numbered
flat_net-requires-clause-numbered c =
    zip_at HasEntries c.args.nets.now c.args.tables.now c.loop-k.k c.get.result.now c.get-in-loop-k.result.now c.get.ensures c.get-in-loop-k.ensures c.requires.numbered.each

pub flat_net-requires-clause-distinct : goal.flat_net-requires-clause-distinct
flat_net-requires-clause-distinct c = distinct_at c.args.nets.now c.loop-k.k c.get.result.now c.get.ensures c.requires.numbered.distinct

pub flat_net-requires-clause-settled : goal.flat_net-requires-clause-settled
flat_net-requires-clause-settled c =
    rw (c.as_slice.ensures)
    (zip_at AreSettled c.args.nets.now c.args.links.now c.loop-k.k c.get.result.now c.get-in-loop-k-2.result.now c.get.ensures c.get-in-loop-k-2.ensures c.requires.settled)

pub flat_net-requires-clause-fits : goal.flat_net-requires-clause-fits
flat_net-requires-clause-fits c = each_at FitsLimits c.args.nets.now c.loop-k.k c.get.result.now c.get.ensures c.requires.fits

pub returns-in_err-flat-clause-fault : goal.returns-in_err-flat-clause-fault
returns-in_err-flat-clause-fault c =
    err_goes (NamesMisjoined c.args.nets.now c.args.number) c.from_residual.result _ c.from_residual.ensures.1
    (misjoined_in c.args.nets.now c.loop-k.k c.get.result.now c.get.ensures c.args.number c.loop-k.invariant.joins _ c.in_err-flat.ensures.fault)

pub loop-k-preserved : goal.loop-k-preserved
loop-k-preserved c =
    let nets = c.args.nets.now in
    let k = c.loop-k.k in
    record {
      joins = each_more JoinsArcs nets k c.get.result.now c.get.ensures c.loop-k.invariant.joins c.in_ok-flat.ensures.joins;
      chosen = elim c.if-k-number.branch [
        | then-k-number w ↦ chosen_here nets c.args.number k c.get.result.now c.in_ok-flat.flat c.if-k-number.chosen w.if-k-number.true c.get.ensures c.in_ok-flat.ensures.flat w.chosen-is
        | else-k-number w ↦ chosen_elsewhere nets c.args.number k c.loop-k.chosen c.if-k-number.chosen w.if-k-number.false c.loop-k.invariant.chosen w.chosen-is
      ];
    }
