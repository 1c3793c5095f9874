-- Each net has its own table, and no id occurs twice in it.
use Rattle.page_flatten.specs.Rules.{ids_in}
use Rattle.page_flatten.specs.Passes.{HasEntries, NamesRepeated}
use Rattle.page_flatten.proofs.FaultLaws.{err_goes}
use Rattle.page_flatten.proofs.NetLists.{zip_more}
use Rattle.page_flatten.proofs.NetFaults.{not_repeated}
use Rattle.page_flatten.proofs.numbered.number_each.Goals as goal

pub returns-in_err-number_elements-clause-fault : goal.returns-in_err-number_elements-clause-fault
returns-in_err-number_elements-clause-fault c =
    err_goes (NamesRepeated (ids_in c.args.nets.now)) c.from_residual.result _ c.from_residual.ensures.1
    (not_repeated c.args.nets.now c.loop-k.k c.get.result.now c.get.ensures c.requires _ c.in_err-number_elements.ensures.fault)

pub loop-k-preserved : goal.loop-k-preserved
loop-k-preserved c =
    zip_more HasEntries c.args.nets.now _ _ c.loop-k.k c.get.result.now _ c.get.ensures c.loop-k.invariant c.in_ok-number_elements.ensures.numbered c.in_ok-push.ensures.ok
