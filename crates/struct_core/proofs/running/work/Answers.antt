-- Each exit is one way in which a run ends.
use Rattle.report.specs.declared.refusal.Refusal.TheVariants.{WriteFault}
use Rattle.struct_core.proofs.Orders.{in_range}
use Rattle.struct_core.proofs.Exits.{refused_so, written, write_failed}
use Rattle.struct_core.proofs.running.work.Goals as goal

pub obtain-requires : goal.obtain-requires
obtain-requires g c = in_range _ _ c.requires

pub returns-in_err-text : goal.returns-in_err-text
returns-in_err-text g c = refused_so _ _ _ _ _ c.from_residual.result _ c.from_residual.ensures.1 (c.in_err-text.ensures.refused _ _ c.requires)

pub returns-in_err-write_all : goal.returns-in_err-write_all
returns-in_err-write_all g c =
    let text = c.in_ok-text.ensures.text in
    refused_so _ _ _ _ _ c.from_residual-in_err-write_all.result WriteFault c.from_residual-in_err-write_all.ensures.1
    (write_failed _ c.args.order _ _ _ _ text.input c.in_ok-text.text c.requires text.read text.outcome (rw (← c.as_bytes.ensures.value) c.in_err-write_all.ensures.cut) c.in_err-write_all.ensures.cause.failed)

pub returns : goal.returns
returns g c =
    let text = c.in_ok-text.ensures.text in
    written _ c.args.order _ _ _ _ text.input c.in_ok-text.text c.requires text.read text.outcome (rw (← c.as_bytes.ensures.value) c.in_ok-write_all.ensures.whole) c.in_ok-write_all.ensures.cause.kept
