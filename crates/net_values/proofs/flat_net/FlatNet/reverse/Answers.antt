use Rattle.net_values.proofs.FlatNets.{turned_nodes, turned_is_reversed}
use Rattle.net_values.proofs.PlaceLists.{turned_kept}
use Rattle.net_values.proofs.flat_net.FlatNet.reverse.Goals as goal

pub invariant_of-result : goal.invariant_of-result
invariant_of-result c =
    rw (c.in_ok-copies.ensures, c.as_slice.ensures.value, c.in_ok-exchanged.ensures, c.as_slice-2.ensures.value, c.in_ok-turned_round.ensures, c.as_slice-3.ensures.value)
    (turned_kept _ _ c.self.invariant)

pub returns-clause-nodes : goal.returns-clause-nodes
returns-clause-nodes c =
    rw (← c.self.view_is, c.in_ok-copies.ensures, c.as_slice.ensures.value, c.in_ok-exchanged.ensures, c.as_slice-2.ensures.value)
    (turned_nodes _)

pub returns-clause-net : goal.returns-clause-net
returns-clause-net c =
    rw (← c.self.view_is, c.in_ok-copies.ensures, c.as_slice.ensures.value, c.in_ok-exchanged.ensures, c.as_slice-2.ensures.value)
    (turned_is_reversed record { places = c.self.inside.places.items; transitions = c.self.inside.transitions.items; arcs = c.self.inside.arcs })
