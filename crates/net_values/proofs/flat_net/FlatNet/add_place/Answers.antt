use Rattle.net_values.proofs.PlaceLists.{place_kept}
use Rattle.net_values.proofs.flat_net.FlatNet.add_place.Goals as goal

pub invariant_of-self-2 : goal.invariant_of-self-2
invariant_of-self-2 c =
    rw (c.in_ok-push.ensures.items, c.push_reserved.ensures.items, c.in_ok-reserve.ensures.items, c.new.ensures)
    (place_kept _ _ _ _ c.self.invariant (rw (← c.self.view_is) at c.requires))
