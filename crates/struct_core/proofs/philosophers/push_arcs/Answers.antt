use Rattle.std.proofs.Common.{refl}
use Rattle.struct_core.specs.Sample.{arcs_of}
use Rattle.struct_core.proofs.SampleMade.{both_more}
use Rattle.struct_core.proofs.philosophers.push_arcs.Goals as goal

pub loop-i-preserved : goal.loop-i-preserved
loop-i-preserved c =
    both_more (arcs_of c.args.n) _ _ _ _ _ _ _ c.loop-i.invariant c.in_ok-push_takes.ensures c.in_ok-push_releases.ensures refl
