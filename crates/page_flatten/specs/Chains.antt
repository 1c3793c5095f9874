-- What a node resolves to: a place or a transition to itself, a reference node to what the node that its
-- `ref` names resolves to, where that chain ends.
use Rattle.std.specs.Prelude.{◌≡◌, ℕ, List, Some, slice_get}
use Rattle.page_flatten.specs.declared.links.End.{End}
use Rattle.net_values.specs.declared.node_kind.NodeKind.{NodeKind}
use Rattle.page_flatten.specs.Elements.{Element, Real, Reference}

-- the node with the id resolves to the end, by way of element number n
pub data Resolves (elements : List Element) : List ℕ → End → Type 0 where
  to_itself : (n : ℕ) (id : List ℕ) (end : End) → slice_get elements n ≡ Some record { id = id; role = Real end }
      → Resolves elements id end
  to_what_it_names : (n : ℕ) (id : List ℕ) (kind : NodeKind) (target : List ℕ) (end : End)
      → slice_get elements n ≡ Some record { id = id; role = Reference kind target } → Resolves elements target end
      → Resolves elements id end
