-- The net is the first element, and each item begins the next one, if it begins any.
use Rattle.std.proofs.Common.{◌++◌}
use Rattle.page_flatten.specs.Passes.{NamesRepeated}
use Rattle.page_flatten.specs.Rules.{ids_of}
use Rattle.page_flatten.specs.Tables.{table_ids}
use Rattle.page_flatten.proofs.Lists.{read_in}
use Rattle.page_flatten.proofs.FaultLaws.{err_goes}
use Rattle.page_flatten.proofs.NumberLaws.{numbers_none, numbers_more, repeated_item, repeated_first}
use Rattle.page_flatten.proofs.numbers.Numbers.add_net.Goals as goal

pub loop-item-init : goal.loop-item-init
loop-item-init c = numbers_none c.args.self.now c.args.net.now _ c.requires c.in_ok-add_element.ensures.ok

pub returns-in_err-add_element-clause-fault : goal.returns-in_err-add_element-clause-fault
returns-in_err-add_element-clause-fault c =
    err_goes (NamesRepeated (table_ids c.args.self.now ++ ids_of c.args.net.now)) c.from_residual.result _ c.from_residual.ensures.1
    (repeated_first c.args.self.now c.args.net.now c.requires _ c.in_err-add_element.ensures.fault)

pub returns-in_err-add_item-clause-fault : goal.returns-in_err-add_item-clause-fault
returns-in_err-add_item-clause-fault c =
    let k = c.loop-item.item-index in
    let read = read_in c.as_slice-item-items.result.now c.args.net.now.items k c.item-item.result c.as_slice-item-items.ensures c.loop-item-test.true c.item-item.is in
    err_goes (NamesRepeated (table_ids c.args.self.now ++ ids_of c.args.net.now)) c.from_residual-in_err-add_item.result _ c.from_residual-in_err-add_item.ensures.1
    (repeated_item c.args.self.now c.args.net.now k c.item-item.result _ read.0 read.1 c.loop-item.invariant _ c.in_err-add_item.ensures.fault)

pub loop-item-preserved : goal.loop-item-preserved
loop-item-preserved c =
    let k = c.loop-item.item-index in
    let read = read_in c.as_slice-item-items.result.now c.args.net.now.items k c.item-item.result c.as_slice-item-items.ensures c.loop-item-test.true c.item-item.is in
    numbers_more c.args.self.now c.args.net.now k c.item-item.result _ _ read.0 read.1 c.loop-item.invariant c.in_ok-add_item.ensures.ok
