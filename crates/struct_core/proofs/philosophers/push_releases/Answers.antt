-- Four arcs more.
use Rattle.struct_core.proofs.SampleMade.{arc_as, four_more}
use Rattle.struct_core.proofs.philosophers.push_releases.Goals as goal

pub returns : goal.returns
returns c =
    four_more _ _ _ _ _ _ _ _ _ _ _ _ _ c.push_arc-4.result (arc_as _ c.in_ok-numbered.ensures c.in_ok-numbered-2.ensures)
    (arc_as _ c.in_ok-numbered-3.ensures c.in_ok-numbered-4.ensures) (arc_as _ c.in_ok-numbered-5.ensures c.in_ok-numbered-6.ensures)
    (arc_as _ c.in_ok-numbered-7.ensures c.in_ok-numbered-8.ensures) c.in_ok-push_arc.ensures c.in_ok-push_arc-2.ensures c.in_ok-push_arc-3.ensures
    c.push_arc-4.ensures
