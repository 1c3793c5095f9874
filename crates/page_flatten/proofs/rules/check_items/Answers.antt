use Rattle.std.specs.List.{flat_map}
use Rattle.page_flatten.specs.Names.{looked, IsKept, IsFirstBreaking}
use Rattle.page_flatten.proofs.FaultLaws.{err_goes, breaking_moves}
use Rattle.page_flatten.proofs.Passes.{passed_more, failed_here}
use Rattle.page_flatten.proofs.rules.check_items.Goals as goal

pub returns-in_err-check_item-clause-fault : goal.returns-in_err-check_item-clause-fault
returns-in_err-check_item-clause-fault c =
    let rule = c.args.rule in
    let table = c.args.numbers.now in
    let items = c.args.items.now in
    let item = c.item-item.result in
    err_goes (IsFirstBreaking rule table (flat_map (looked rule) items)) c.from_residual.result _ c.from_residual.ensures.1
    (breaking_moves table rule (looked rule item) (flat_map (looked rule) items) (λ x. failed_here (looked rule) (IsKept rule table) items c.loop-item.item-index item x c.loop-item-test.true c.item-item.is c.loop-item.invariant) _
    c.in_err-check_item.ensures.fault)

pub loop-item-preserved : goal.loop-item-preserved
loop-item-preserved c =
    passed_more (looked c.args.rule) (IsKept c.args.rule c.args.numbers.now) c.args.items.now c.loop-item.item-index c.item-item.result c.loop-item-test.true c.item-item.is c.loop-item.invariant c.in_ok-check_item.ensures.ok
