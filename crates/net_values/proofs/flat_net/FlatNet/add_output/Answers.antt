use Rattle.net_values.proofs.FlatNets.{outputs_of, room_for_arc, output_added}
use Rattle.net_values.proofs.PlaceLists.{output_kept}
use Rattle.net_values.proofs.flat_net.FlatNet.add_output.Goals as goal

pub add_giver-requires-clause-fits : goal.add_giver-requires-clause-fits
add_giver-requires-clause-fits c = rw c.from.ensures (room_for_arc outputs_of _ _ _ _ c.args.p _ c.args.weight c.self.invariant.net.post c.self.invariant.net.arcs (rw (← c.self.view_is) at c.requires.transition) c.index_mut.ensures.value c.ranges.weight.fits)

pub invariant_of-self-2 : goal.invariant_of-self-2
invariant_of-self-2 c =
    output_kept _ _ c.args.p c.args.t c.args.weight c.index_mut.result.now _ c.index_mut-2.result.now _ c.self.invariant (rw (← c.self.view_is) at c.requires.place) (rw (← c.self.view_is) at c.requires.transition) (rw (← c.self.view_is) at c.requires.room) c.requires.positive c.ranges.weight.fits c.index_mut.ensures.value c.index_mut-2.ensures.value
    (rw c.from.ensures at c.in_ok-add_giver.ensures.weight) c.in_ok-add_giver.ensures.giver c.in_ok-add_giver.ensures.takers

pub returns-clause-ok : goal.returns-clause-ok
returns-clause-ok c = rw (← c.self.view_is) (output_added _ _ _ _ c.index_mut.result.now _ (rw (← c.self.view_is) at c.requires.transition) c.index_mut.ensures.value (rw c.from.ensures at c.in_ok-add_giver.ensures.weight))
