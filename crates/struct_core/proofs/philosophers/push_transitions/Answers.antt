use Rattle.std.proofs.Common.{refl}
use Rattle.struct_core.specs.Sample.{transitions_of}
use Rattle.struct_core.proofs.SampleMade.{both_more}
use Rattle.struct_core.proofs.philosophers.push_transitions.Goals as goal

pub loop-i-preserved : goal.loop-i-preserved
loop-i-preserved c =
    both_more transitions_of _ _ _ _ _ _ _ c.loop-i.invariant c.in_ok-push_transition.ensures c.in_ok-push_transition-2.ensures refl
