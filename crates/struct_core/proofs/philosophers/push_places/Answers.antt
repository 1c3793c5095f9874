use Rattle.struct_core.proofs.SampleMade.{one_more}
use Rattle.struct_core.proofs.philosophers.push_places.Goals as goal

pub loop-i-preserved : goal.loop-i-preserved
loop-i-preserved c = one_more _ _ _ _ _ c.loop-i.invariant c.in_ok-push_place.ensures
