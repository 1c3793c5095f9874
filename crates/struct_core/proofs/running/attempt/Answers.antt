-- No order, no run.
use Rattle.struct_core.proofs.Exits.{no_order}
use Rattle.struct_core.proofs.running.attempt.Goals as goal

pub returns-in-None : goal.returns-in-None
returns-in-None g c = no_order _ _ _ c.in-None.ensures.none
