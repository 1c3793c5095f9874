-- The ids of the nets so far are in one table.
use Rattle.page_flatten.specs.Passes.{NamesRepeated}
use Rattle.page_flatten.specs.Rules.{ids_in}
use Rattle.page_flatten.proofs.FaultLaws.{err_goes}
use Rattle.page_flatten.proofs.NumberLaws.{all_more, all_ids, repeated_in}
use Rattle.page_flatten.proofs.numbered.check_ids.Goals as goal

pub returns-in_err-add_net-clause-fault : goal.returns-in_err-add_net-clause-fault
returns-in_err-add_net-clause-fault c =
    err_goes (NamesRepeated (ids_in c.args.nets.now)) c.from_residual.result _ c.from_residual.ensures.1
    (repeated_in c.args.nets.now c.loop-k.k c.get.result.now c.loop-k.numbers c.get.ensures c.loop-k.invariant _ c.in_err-add_net.ensures.fault)

pub loop-k-preserved : goal.loop-k-preserved
loop-k-preserved c =
    all_more c.args.nets.now c.loop-k.k c.get.result.now c.loop-k.numbers _ c.get.ensures c.loop-k.invariant c.in_ok-add_net.ensures.numbered c.in_ok-add_net.ensures.distinct

pub returns-clause-ok : goal.returns-clause-ok
returns-clause-ok c = all_ids c.args.nets.now c.loop-k.k c.loop-k.numbers (rw (← c.len-k-end.ensures) c.loop-k-test.false) c.loop-k.invariant
