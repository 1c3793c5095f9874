use Rattle.net_values.proofs.PlaceLists.{transition_kept}
use Rattle.net_values.proofs.flat_net.FlatNet.add_transition.Goals as goal

pub invariant_of-self-2 : goal.invariant_of-self-2
invariant_of-self-2 c =
    rw (c.in_ok-push.ensures.items, c.new.ensures, c.new-2.ensures)
    (transition_kept _ _ _ c.self.invariant (rw (← c.self.view_is) at c.requires))
