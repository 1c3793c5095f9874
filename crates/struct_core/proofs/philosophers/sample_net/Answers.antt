-- All items, one after the other.
use Rattle.struct_core.proofs.SampleMade.{all_items, document_is}
use Rattle.struct_core.proofs.philosophers.sample_net.Goals as goal

pub returns : goal.returns
returns c =
    document_is _ _ _ _ _ _ c.new-nets.ensures c.in_ok-push-3.ensures.ok c.in_ok-word-2.ensures c.in_ok-word.ensures
    (all_items _ _ _ _ _ _ _ _ _ _ _ _ _ _ _ c.new-items.ensures c.in_ok-push.ensures.ok c.in_ok-push_places.ensures c.in_ok-push_places-2.ensures c.in_ok-push_places-3.ensures
    c.in_ok-push_transitions.ensures c.in_ok-push_arcs.ensures c.in_ok-push-2.ensures.ok)
