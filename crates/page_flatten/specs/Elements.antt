-- The elements of a net in document order (ISO/IEC 15909-2): the net itself, then its pages, nodes and arcs.
use Rattle.std.specs.Prelude.{ℕ, ◌+◌, List, [], ◌∷◌, Option, Some, None, map}
use Rattle.net_values.specs.declared.document.NetTree.{NetTree}
use Rattle.net_values.specs.declared.document.Item.{Item}
use Rattle.net_values.specs.declared.document.Item.TheVariants.{Page, PageEnd, Place, Transition, RefPlace, RefTransition, Arc}
use Rattle.net_values.specs.declared.document.ArcNode.{ArcNode}
use Rattle.net_values.specs.declared.document.RefNode.{RefNode}
use Rattle.page_flatten.specs.declared.links.End.{End}
use Rattle.page_flatten.specs.declared.links.End.TheVariants.{AtPlace, AtTransition}
use Rattle.net_values.specs.declared.node_kind.NodeKind.{NodeKind}

-- what an element is to a chain of references: no node (the net, a page or an arc), a place or a transition,
-- by its number in document order, or a reference to the node of an id
pub data Role : Type 0 where
  NoNode : Role
  Real : End → Role
  Reference : NodeKind → List ℕ → Role

pub record Element : Type 0 where
  pub id : List ℕ
  pub role : Role

-- the elements of the items, where this many places and transitions come before
abbrev pub elements_from : List Item → ℕ → ℕ → List Element
elements_from [] p t = []
elements_from (Page page ∷ items) p t = record { id = page.id; role = NoNode } ∷ elements_from items p t
elements_from (PageEnd ∷ items) p t = elements_from items p t
elements_from (Place node ∷ items) p t =
    record { id = node.id; role = Real (AtPlace p) } ∷ elements_from items (p + 1) t
elements_from (Transition node ∷ items) p t =
    record { id = node.id; role = Real (AtTransition t) } ∷ elements_from items p (t + 1)
elements_from (RefPlace node ∷ items) p t =
    record { id = node.id; role = Reference NodeKind.Place node.target } ∷ elements_from items p t
elements_from (RefTransition node ∷ items) p t =
    record { id = node.id; role = Reference NodeKind.Transition node.target } ∷ elements_from items p t
elements_from (Arc arc ∷ items) p t = record { id = arc.id; role = NoNode } ∷ elements_from items p t

-- the elements of a net
abbrev pub elements : NetTree → List Element
elements net = record { id = net.id; role = NoNode } ∷ elements_from net.items 0 0

-- the kind of node that an element is, if it is one; a reference node has the kind of what it may represent
abbrev pub kind_of : Role → Option NodeKind
kind_of NoNode = None
kind_of (Real (AtPlace p)) = Some NodeKind.Place
kind_of (Real (AtTransition t)) = Some NodeKind.Transition
kind_of (Reference kind target) = Some kind

-- the id of an element and its kind of node
abbrev pub entry_of : Element → List ℕ × Option NodeKind
entry_of element = (element.id, kind_of element.role)

-- the elements by id and kind of node: what the numbers of elements are given by
abbrev pub entries : NetTree → List (List ℕ × Option NodeKind)
entries net = map entry_of (elements net)

-- a `ref`, `source` or `target`: the id that it mentions, and the id of the element that holds it
pub record Mention : Type 0 where
  pub id : List ℕ
  pub by : List ℕ

-- what an item mentions; the source of an arc comes before its target
abbrev pub mentions : Item → List Mention
mentions (RefPlace node) = record { id = node.target; by = node.id } ∷ []
mentions (RefTransition node) = record { id = node.target; by = node.id } ∷ []
mentions (Arc arc) = record { id = arc.source; by = arc.id } ∷ record { id = arc.target; by = arc.id } ∷ []
mentions _ = []

-- a reference node
pub record ReferenceTo : Type 0 where
  pub id : List ℕ
  pub kind : NodeKind
  pub target : List ℕ

abbrev pub reference_of : NodeKind → RefNode → ReferenceTo
reference_of kind node = record { id = node.id; kind = kind; target = node.target }

-- an item as a list of reference nodes: itself, or none
abbrev pub references : Item → List ReferenceTo
references (RefPlace node) = reference_of NodeKind.Place node ∷ []
references (RefTransition node) = reference_of NodeKind.Transition node ∷ []
references _ = []

-- an item as a list of arcs: itself, or none
abbrev pub arcs : Item → List ArcNode
arcs (Arc arc) = arc ∷ []
arcs _ = []
