-- Chains by the numbers of elements: what the code follows. The laws in proofs/ChainLaws.antt show that they
-- end where the chains of ids end.
use Rattle.std.specs.Prelude.{◌≡◌, ℕ, zero, suc, ◌+◌, ◌<◌, ◌≤◌, List, [], ◌∷◌, ◌++◌, Option, Some, None, slice_get, map, length, sum_by}
use Rattle.std.specs.List.{AllZip, AllByRecursion, flat_map}
use Rattle.net_values.specs.declared.document.ArcNode.{ArcNode}
use Rattle.net_values.specs.declared.document.NetTree.{NetTree}
use Rattle.net_values.specs.declared.document.RefNode.{RefNode}
use Rattle.net_values.specs.declared.limits.TheConstants.{MAX_PLACES, MAX_TRANSITIONS}
use Rattle.net_values.specs.FlatNets.{NetLists, net_of, transition_ids, KeepsNodes}
use Rattle.net_values.specs.declared.document.Item.{Item}
use Rattle.net_values.specs.declared.document.Item.TheVariants.{Page, PageEnd, Place, Transition, RefPlace, RefTransition, Arc}
use Rattle.std.specs.Option.{option_to_list, IfSome}
use Rattle.page_flatten.specs.declared.links.End.{End}
use Rattle.net_values.specs.declared.node_kind.NodeKind.{NodeKind}
use Rattle.page_flatten.specs.declared.links.Link.{Link}
use Rattle.page_flatten.specs.declared.links.Link.TheVariants.{Apart, Ends, Leads}
use Rattle.page_flatten.specs.declared.links.End.TheVariants.{AtPlace, AtTransition}
use Rattle.page_flatten.specs.declared.fault.FlatFault.{FlatFault}
use Rattle.page_flatten.specs.declared.fault.FlatFault.TheVariants.{NoMemory, DuplicateId, UnknownId, RefKind, RefCycle, ArcEnds}
use Rattle.page_flatten.specs.Elements.{Element, Role, NoNode, Real, Reference, Mention, ReferenceTo, elements, entries}
use Rattle.page_flatten.specs.Chains.{Resolves}
use Rattle.page_flatten.specs.Rules.{IsKnown, NamesItsKind, IsPlaceAndTransition, IsFirstWithout}
use Rattle.page_flatten.specs.Flat.{FlatArc, weight_between, flat_places, flat_transitions}

-- the ids of a table
abbrev pub table_ids : List (List ℕ × Option NodeKind) → List (List ℕ)
table_ids table = map (λ entry. entry.0) table

-- the entry of the element that begins with an item, if one does
abbrev pub item_entry : Item → Option (List ℕ × Option NodeKind)
item_entry (Page page) = Some (page.id, None)
item_entry PageEnd = None
item_entry (Place node) = Some (node.id, Some NodeKind.Place)
item_entry (Transition node) = Some (node.id, Some NodeKind.Transition)
item_entry (RefPlace node) = Some (node.id, Some NodeKind.Place)
item_entry (RefTransition node) = Some (node.id, Some NodeKind.Transition)
item_entry (Arc arc) = Some (arc.id, None)

-- the element that begins with an item was numbered, and its id is that of no earlier one
pub record IsNumbered (old new : List (List ℕ × Option NodeKind))
    (entry : Option (List ℕ × Option NodeKind)) : Type 0 where
  pub grown : new ≡ old ++ option_to_list entry
  pub fresh : IfSome entry (λ e. (n : ℕ) → slice_get (table_ids old) n ≡ Some e.0 → ⊥)

-- what the fault at one item says: its element has the id of an earlier one. Out of memory says nothing
abbrev pub IsRepeated : List (List ℕ × Option NodeKind) → Option (List ℕ × Option NodeKind) → FlatFault → Type 0
IsRepeated old entry NoMemory = Unit
IsRepeated old entry (DuplicateId id) =
    (kind : Option NodeKind) × (entry ≡ Some (id, kind)) × (n : ℕ) × (slice_get (table_ids old) n ≡ Some id)
IsRepeated old entry _ = ⊥

-- the numbers of the next place and the next transition after an item
abbrev pub places_after : Item → ℕ → ℕ
places_after (Place node) p = p + 1
places_after _ p = p

abbrev pub transitions_after : Item → ℕ → ℕ
transitions_after (Transition node) t = t + 1
transitions_after _ t = t

-- from element n, this many references lead to the end
abbrev pub EndsIn : ℕ → List Link → ℕ → End → Type 0
EndsIn zero links n end = slice_get links n ≡ Some (Ends end)
EndsIn (suc steps) links n end = (m : ℕ) × (slice_get links n ≡ Some (Leads m)) × EndsIn steps links m end

-- the chain from element n ends so
pub record EndsAt (links : List Link) (n : ℕ) (end : End) : Type 0 where
  pub steps : ℕ
  pub chain : EndsIn steps links n end

-- the chains of the one table end where those of the other do
pub record HaveSameEnds (old new : List Link) : Type 0 where
  pub kept : (n : ℕ) (end : End) → EndsAt old n end → EndsAt new n end
  pub sound : (n : ℕ) (end : End) → EndsAt new n end → EndsAt old n end

-- the link of an element with this role: a reference leads to the number of a node with its target as id
abbrev pub IsLinkOf : List (List ℕ × Option NodeKind) → Role → Link → Type 0
IsLinkOf table NoNode link = link ≡ Apart
IsLinkOf table (Real end) link = link ≡ Ends end
IsLinkOf table (Reference kind target) link =
    (m : ℕ) × (link ≡ Leads m) × (found : NodeKind) × (slice_get table m ≡ Some (target, Some found))

-- the links of the elements, one each
abbrev pub AreLinksOf : List (List ℕ × Option NodeKind) → List Element → List Link → Type 0
AreLinksOf table [] [] = Unit
AreLinksOf table [] (link ∷ links) = ⊥
AreLinksOf table (element ∷ elements) [] = ⊥
AreLinksOf table (element ∷ elements) (link ∷ links) =
    IsLinkOf table element.role link × AreLinksOf table elements links

-- the node with the id is in the table, and its chain ends so
pub record EndsById (table : List (List ℕ × Option NodeKind))
    (links : List Link) (id : List ℕ) (end : End) : Type 0 where
  pub number : ℕ
  pub kind : NodeKind
  pub occurs : slice_get table number ≡ Some (id, Some kind)
  pub ends : EndsAt links number end

-- each end is a place or a transition of the net
abbrev pub IsEndWithin : ℕ → ℕ → End → Type 0
IsEndWithin places transitions (AtPlace p) = p < places
IsEndWithin places transitions (AtTransition t) = t < transitions

abbrev pub LinksStayWithin : ℕ → ℕ → List Link → Type 0
LinksStayWithin places transitions links =
    (n : ℕ) (end : End) → EndsAt links n end → IsEndWithin places transitions end

-- chains end by number as they do by id, each at a place or a transition of the net
pub record AreSettled (net : NetTree) (links : List Link) : Type 0 where
  pub resolves : (id : List ℕ) (end : End) → EndsById (entries net) links id end → Resolves (elements net) id end
  pub ends : (id : List ℕ) (end : End) → Resolves (elements net) id end → EndsById (entries net) links id end
  pub within : LinksStayWithin (length (flat_map flat_places net.items)) (length (flat_map flat_transitions net.items)) links

-- the chain from a reference node ends, by the tables
abbrev pub ItsLinksEnd : List (List ℕ × Option NodeKind) → List Link → ReferenceTo → Type 0
ItsLinksEnd table links reference = (end : End) × EndsById table links reference.target end

-- the resolved ends of an arc are one place and one transition, by the tables
pub record LinksJoin (table : List (List ℕ × Option NodeKind))
    (links : List Link) (arc : ArcNode) : Type 0 where
  pub source : End
  pub target : End
  pub source_ends : EndsById table links arc.source source
  pub target_ends : EndsById table links arc.target target
  pub apart : IsPlaceAndTransition source target

-- what the fault of each pass over the items says of its list: out of memory says nothing
abbrev pub IsFirstUnknown : List (List ℕ × Option NodeKind) → List Mention → FlatFault → Type 0
IsFirstUnknown table list NoMemory = Unit
IsFirstUnknown table list (UnknownId id by) = IsFirstWithout (IsKnown table) list record { id = id; by = by }
IsFirstUnknown table list _ = ⊥

abbrev pub IsFirstOfWrongKind : List (List ℕ × Option NodeKind) → List ReferenceTo → FlatFault → Type 0
IsFirstOfWrongKind table list NoMemory = Unit
IsFirstOfWrongKind table list (RefKind id) =
    (reference : ReferenceTo) × IsFirstWithout (NamesItsKind table) list reference × (reference.id ≡ id)
IsFirstOfWrongKind table list _ = ⊥

abbrev pub IsFirstEndless : List (List ℕ × Option NodeKind) → List Link → List ReferenceTo → FlatFault → Type 0
IsFirstEndless table links list NoMemory = Unit
IsFirstEndless table links list (RefCycle id) =
    (reference : ReferenceTo) × IsFirstWithout (ItsLinksEnd table links) list reference × (reference.id ≡ id)
IsFirstEndless table links list _ = ⊥

abbrev pub IsFirstMisjoined : List (List ℕ × Option NodeKind) → List Link → List ArcNode → FlatFault → Type 0
IsFirstMisjoined table links list NoMemory = Unit
IsFirstMisjoined table links list (ArcEnds id) =
    (arc : ArcNode) × IsFirstWithout (LinksJoin table links) list arc × (arc.id ≡ id)
IsFirstMisjoined table links list _ = ⊥

-- the arc with its ends resolved, by the tables
pub record IsResolvedBy (table : List (List ℕ × Option NodeKind))
    (links : List Link) (arc : ArcNode) (flat : FlatArc) : Type 0 where
  pub source : EndsById table links arc.source flat.source
  pub target : EndsById table links arc.target flat.target
  pub weight : flat.weight ≡ arc.weight

-- the arcs were added to the net, each between what its ends resolve to
pub record AddsArcs (table : List (List ℕ × Option NodeKind))
    (links : List Link) (list : List ArcNode) (old new : NetLists) : Type 0 where
  pub flat_arcs : List FlatArc
  pub resolved : AllZip (IsResolvedBy table links) list flat_arcs
  pub joined : AllByRecursion (LinksJoin table links) list
  pub pre : (p t : ℕ)
      → (net_of new).pre p t ≡ (net_of old).pre p t + sum_by (weight_between (AtPlace p) (AtTransition t)) flat_arcs
  pub post : (p t : ℕ)
      → (net_of new).post p t ≡ (net_of old).post p t + sum_by (weight_between (AtTransition t) (AtPlace p)) flat_arcs
  pub nodes : KeepsNodes old new
  pub count : new.arcs ≡ old.arcs + length list

-- what the fault at one reference node says: out of memory says nothing
abbrev pub IsEndless : List (List ℕ × Option NodeKind) → List Link → RefNode → FlatFault → Type 0
IsEndless table links node NoMemory = Unit
IsEndless table links node (RefCycle id) = (id ≡ node.id) × ((end : End) → EndsById table links node.target end → ⊥)
IsEndless table links node _ = ⊥

-- a net without arcs
pub record HasNoArcs (lists : NetLists) : Type 0 where
  pub pre : (p t : ℕ) → (net_of lists).pre p t ≡ 0
  pub post : (p t : ℕ) → (net_of lists).post p t ≡ 0
  pub count : lists.arcs ≡ 0

-- an item more fits into the net
pub record HasRoomFor (lists : NetLists) (item : Item) : Type 0 where
  pub places : length lists.places + length (flat_places item) ≤ MAX_PLACES
  pub transitions : length lists.transitions + length (flat_transitions item) ≤ MAX_TRANSITIONS

-- the place or the transition that an item is was added to the net, and no arc
pub record AddsNodes (old new : NetLists) (item : Item) : Type 0 where
  pub places : new.places ≡ old.places ++ flat_places item
  pub transitions : transition_ids new ≡ transition_ids old ++ flat_transitions item
  pub arcs : HasNoArcs old → HasNoArcs new

-- what the fault at one arc says: out of memory says nothing
abbrev pub IsMisjoined : List (List ℕ × Option NodeKind) → List Link → ArcNode → FlatFault → Type 0
IsMisjoined table links arc NoMemory = Unit
IsMisjoined table links arc (ArcEnds id) = (id ≡ arc.id) × (LinksJoin table links arc → ⊥)
IsMisjoined table links arc _ = ⊥
