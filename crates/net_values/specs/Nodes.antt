-- The places or the transitions of a net, and their ids by number.
use Rattle.std.specs.Prelude.{ℕ, List, length}
use Rattle.net_values.specs.FlatNets.{NetLists, place_at, transition_at}
use Rattle.net_values.specs.declared.node_kind.NodeKind.{NodeKind}
use Rattle.net_values.specs.declared.node_kind.NodeKind.TheVariants.{Place, Transition}

-- the kind that isn't this one
abbrev pub other_kind : NodeKind → NodeKind
other_kind Place = Transition
other_kind Transition = Place

-- the id of a place
abbrev pub place_id : NetLists → ℕ → List ℕ
place_id net p = (place_at net p).id

-- the id of a transition
abbrev pub transition_id : NetLists → ℕ → List ℕ
transition_id net t = (transition_at net t).id

-- the id of a node of this kind
abbrev pub node_id : NodeKind → NetLists → ℕ → List ℕ
node_id Place = place_id
node_id Transition = transition_id

-- the number of nodes of this kind
abbrev pub node_count : NodeKind → NetLists → ℕ
node_count Place net = length net.places
node_count Transition net = length net.transitions
