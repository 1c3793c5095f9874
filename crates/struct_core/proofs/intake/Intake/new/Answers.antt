-- The document has no byte yet, and neither has what follows it.
use Rattle.struct_core.proofs.Intaking.{nothing_taken}
use Rattle.struct_core.proofs.intake.Intake.new.Goals as goal

pub returns : goal.returns
returns c = nothing_taken c.args.task (record { part = c.first_part.result; decoder = c.in_ok-new.field-0; rest = c.new-2.result }) c.in_ok-new.ensures.stands c.new-2.ensures.items c.first_part.ensures
