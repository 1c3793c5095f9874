use Rattle.pnml_grammar.proofs.EachLaws.{each_weaker}
use Rattle.page_flatten.specs.Elements.{references, ReferenceTo}
use Rattle.page_flatten.specs.Rules.{IsFirstWithout}
use Rattle.page_flatten.specs.Tables.{ItsLinksEnd, IsFirstEndless}
use Rattle.std.specs.List.{flat_map}
use Rattle.page_flatten.proofs.ChainLaws.{same_ends_then, kept_reference, sound_reference}
use Rattle.page_flatten.proofs.FaultLaws.{err_goes, endless_moves}
use Rattle.page_flatten.proofs.Passes.{passed_more, failed_here, first_same}
use Rattle.page_flatten.proofs.chains.settle_references.Goals as goal

pub returns-in_err-settle_reference_of-clause-fault : goal.returns-in_err-settle_reference_of-clause-fault
returns-in_err-settle_reference_of-clause-fault c =
    let table = c.args.numbers.now in
    let old = c.args.links.now in
    let now = c.loop-item.links in
    let items = c.args.items.now in
    let item = c.item-item.result in
    let same = c.loop-item.invariant.same in
    let moves : (x : ReferenceTo) → IsFirstWithout (ItsLinksEnd table now) (references item) x → IsFirstWithout (ItsLinksEnd table old) (flat_map references items) x =
    λ x first.
    failed_here references (ItsLinksEnd table old) items c.loop-item.item-index item x c.loop-item-test.true c.item-item.is c.loop-item.invariant.passed
    (first_same _ _ (sound_reference table old now same) (kept_reference table old now same) (references item) x first) in
    err_goes (IsFirstEndless table old (flat_map references items)) c.from_residual.result _ c.from_residual.ensures.1
    (endless_moves table now old (references item) (flat_map references items) moves _ c.in_err-settle_reference_of.ensures.fault)

pub loop-item-preserved : goal.loop-item-preserved
loop-item-preserved c =
    let table = c.args.numbers.now in
    let same = c.loop-item.invariant.same in
    record {
      passed =
          passed_more references (ItsLinksEnd table c.args.links.now) c.args.items.now c.loop-item.item-index c.item-item.result c.loop-item-test.true c.item-item.is c.loop-item.invariant.passed
          (each_weaker _ _ (sound_reference table c.args.links.now c.loop-item.links same) (references c.item-item.result) c.in_ok-settle_reference_of.ensures.ok);
      same = same_ends_then _ _ _ same c.settle_reference_of.ensures.same;
    }
