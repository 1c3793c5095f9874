-- A refusal is told by its line.
use Rattle.struct_core.proofs.Telling.{refusal_told}
use Rattle.struct_core.proofs.running.run.Goals as goal

pub returns-in-Err : goal.returns-in-Err
returns-in-Err g c = refusal_told _ _ _ _ _ _ _ c.in-Err.refusal _ c.tell.result c.in-Err.ensures c.tell.ensures c.status.ensures
