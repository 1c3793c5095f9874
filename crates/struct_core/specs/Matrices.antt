-- The matrix whose semiflows are those of the places, or of the transitions, of a net.
use Rattle.std.specs.Prelude.{◌≡◌}
use Rattle.net_values.specs.declared.node_kind.NodeKind.{NodeKind}
use Rattle.net_values.specs.declared.node_kind.NodeKind.TheVariants.{Place, Transition}
use Rattle.net_values.specs.FlatNets.{NetLists, net_of}
use Rattle.net_values.specs.Nodes.{node_count, other_kind}
use Rattle.incidence.specs.Matrix.{Matrix, incidence_of, transposed}

-- the incidence has a row per place, and its transpose a row per transition
abbrev pub matrix_of_kind : NodeKind → NetLists → Matrix
matrix_of_kind Place net = incidence_of (net_of net)
matrix_of_kind Transition net = transposed (incidence_of (net_of net))

-- a row per node of the kind, and a column per node of the other kind
pub record IsSized (kind : NodeKind) (net : NetLists) (m : Matrix) : Type 0 where
  pub rows : m.rows ≡ node_count kind net
  pub columns_are : m.columns ≡ node_count (other_kind kind) net
