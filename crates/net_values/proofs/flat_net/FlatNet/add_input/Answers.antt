use Rattle.net_values.proofs.FlatNets.{inputs_of, room_for_arc, input_added}
use Rattle.net_values.proofs.PlaceLists.{input_kept}
use Rattle.net_values.proofs.flat_net.FlatNet.add_input.Goals as goal

pub add_taker-requires-clause-fits : goal.add_taker-requires-clause-fits
add_taker-requires-clause-fits c = rw c.from.ensures (room_for_arc inputs_of _ _ _ _ c.args.p _ c.args.weight c.self.invariant.net.pre c.self.invariant.net.arcs (rw (← c.self.view_is) at c.requires.transition) c.index_mut.ensures.value c.ranges.weight.fits)

pub invariant_of-self-2 : goal.invariant_of-self-2
invariant_of-self-2 c =
    input_kept _ _ c.args.p c.args.t c.args.weight c.index_mut.result.now _ c.index_mut-2.result.now _ c.self.invariant (rw (← c.self.view_is) at c.requires.place) (rw (← c.self.view_is) at c.requires.transition) (rw (← c.self.view_is) at c.requires.room) c.requires.positive c.ranges.weight.fits c.index_mut.ensures.value c.index_mut-2.ensures.value
    (rw c.from.ensures at c.in_ok-add_taker.ensures.weight) c.in_ok-add_taker.ensures.taker c.in_ok-add_taker.ensures.givers

pub returns-clause-ok : goal.returns-clause-ok
returns-clause-ok c = rw (← c.self.view_is) (input_added _ _ _ _ c.index_mut.result.now _ (rw (← c.self.view_is) at c.requires.transition) c.index_mut.ensures.value (rw c.from.ensures at c.in_ok-add_taker.ensures.weight))
