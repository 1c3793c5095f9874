-- The flat net of a net of a document: its places and transitions in document order, and between each two the sum
-- of the weights of all arcs whose ends resolve to them.
use Rattle.std.specs.Prelude.{◌≡◌, ℕ, zero, suc, Some, slice_get, ◌==◌, ◌&&◌, if◌then◌else◌, Bool, false, List, [], ◌∷◌, count_by, sum_by}
use Rattle.std.specs.List.{flat_map, AllZip}
use Rattle.net_values.specs.declared.document.Document.{Document}
use Rattle.net_values.specs.declared.document.NetTree.{NetTree}
use Rattle.net_values.specs.declared.document.Item.{Item}
use Rattle.net_values.specs.declared.document.Item.TheVariants.{Place, Transition}
use Rattle.net_values.specs.declared.document.ArcNode.{ArcNode}
use Rattle.net_values.specs.declared.flat_net.FlatPlace.{FlatPlace}
use Rattle.net_values.specs.FlatNets.{NetLists, net_of, transition_ids}
use Rattle.net_values.specs.Items.{is_arc}
use Rattle.page_flatten.specs.declared.links.End.{End}
use Rattle.page_flatten.specs.declared.links.End.TheVariants.{AtPlace, AtTransition}
use Rattle.page_flatten.specs.Elements.{Element, elements, arcs}
use Rattle.page_flatten.specs.Chains.{Resolves}

-- an item as a list of places, with id and initial marking: itself, or none
abbrev pub flat_places : Item → List FlatPlace
flat_places (Place node) = record { id = node.id; initial = node.initial } ∷ []
flat_places _ = []

-- an item as a list of the ids of transitions
abbrev pub flat_transitions : Item → List (List ℕ)
flat_transitions (Transition node) = node.id ∷ []
flat_transitions _ = []

-- an arc between what its source and its target resolve to
pub record FlatArc : Type 0 where
  pub source : End
  pub target : End
  pub weight : ℕ

-- the arc with its ends resolved
pub record IsResolved (elements : List Element) (arc : ArcNode) (flat : FlatArc) : Type 0 where
  pub source : Resolves elements arc.source flat.source
  pub target : Resolves elements arc.target flat.target
  pub weight : flat.weight ≡ arc.weight

abbrev pub same_end : End → End → Bool
same_end (AtPlace p) (AtPlace q) = p == q
same_end (AtTransition t) (AtTransition u) = t == u
same_end _ _ = false

-- the weight of an arc where it leads from the one end to the other, else 0
abbrev pub weight_between : End → End → FlatArc → ℕ
weight_between source target arc =
    if same_end source arc.source && same_end target arc.target then arc.weight else 0

-- the flat net of a net
pub record FlatOf (tree : NetTree) (net : NetLists) : Type 0 where
  pub places : net.places ≡ flat_map flat_places tree.items
  pub transitions : transition_ids net ≡ flat_map flat_transitions tree.items
  -- all its arcs in document order, with their ends resolved
  pub flat_arcs : List FlatArc
  pub resolved : AllZip (IsResolved (elements tree)) (flat_map arcs tree.items) flat_arcs
  -- the weights are sums over all of them
  pub pre : (p t : ℕ) → (net_of net).pre p t ≡ sum_by (weight_between (AtPlace p) (AtTransition t)) flat_arcs
  pub post : (p t : ℕ) → (net_of net).post p t ≡ sum_by (weight_between (AtTransition t) (AtPlace p)) flat_arcs
  -- and as many arcs are counted as the net has
  pub count : net.arcs ≡ count_by is_arc tree.items

-- net k of a document, counted from 1
abbrev pub IsNet : Document → ℕ → NetTree → Type 0
IsNet document zero tree = ⊥
IsNet document (suc n) tree = slice_get document.nets n ≡ Some tree

-- the document has no net k
abbrev pub LacksNet : Document → ℕ → Type 0
LacksNet document k = (tree : NetTree) → IsNet document k tree → ⊥

-- the flat net of net k of a document
pub record Flat (document : Document) (k : ℕ) (net : NetLists) : Type 0 where
  pub tree : NetTree
  pub chosen : IsNet document k tree
  pub flat : FlatOf tree net
