-- The answer, or the limit that is passed.
use Rattle.struct_core.proofs.Judging.{live_told, live_fails, live_on_net}
use Rattle.struct_core.proofs.verdicts.live_report.Goals as goal

pub live_text-requires : goal.live_text-requires
live_text-requires c = live_on_net _ _ _ c.in-Ok.ensures.told

pub returns-in-Ok-clause-text : goal.returns-in-Ok-clause-text
returns-in-Ok-clause-text c = live_told _ _ _ _ _ c.in-Ok.ensures.told c.in_ok-live_text-in-Ok.ensures

pub returns-in-Err-SetLimit-clause-refused : goal.returns-in-Err-SetLimit-clause-refused
returns-in-Err-SetLimit-clause-refused c =
    live_fails _ _ _ c.in-Err-SetLimit.field-0-0 c.in-Err-SetLimit.field-0 c.in-Err-SetLimit.field-0-is c.in-Err-SetLimit.ensures.fault
