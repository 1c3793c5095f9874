use Rattle.std.proofs.Common.{arith}
use Rattle.pnml_write.proofs.Labels.{usual_marking, usual_weight}
use Rattle.pnml_write.proofs.elements.NumberLabel.is_usual.Goals as goal

pub returns-in-Marking : goal.returns-in-Marking
returns-in-Marking c = rw (c.in-Marking.is) (usual_marking c.in-Marking.tokens (omega arith))

pub returns-in-Weight : goal.returns-in-Weight
returns-in-Weight c = rw (c.in-Weight.is) (usual_weight c.in-Weight.weight (omega arith))
