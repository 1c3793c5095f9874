-- The five rules that a document must keep to represent flat nets, and the first broken one. They hold over all
-- nets of the document: ids are unique among them, and each other rule is kept in each net.
use Rattle.std.specs.Prelude.{◌≡◌, ◌≤◌, ℕ, List, ◌∷◌, ◌++◌, Option, Some, map, slice_get, length}
use Rattle.std.specs.List.{flat_map, AllByRecursion}
use Rattle.net_values.specs.declared.document.Document.{Document}
use Rattle.net_values.specs.declared.document.NetTree.{NetTree}
use Rattle.net_values.specs.declared.document.ArcNode.{ArcNode}
use Rattle.page_flatten.specs.declared.fault.FlatFault.{FlatFault}
use Rattle.page_flatten.specs.declared.fault.FlatFault.TheVariants.{NoMemory, DuplicateId, UnknownId, RefKind, RefCycle, ArcEnds, NoNet}
use Rattle.page_flatten.specs.declared.links.End.{End}
use Rattle.page_flatten.specs.declared.links.End.TheVariants.{AtPlace, AtTransition}
use Rattle.net_values.specs.declared.node_kind.NodeKind.{NodeKind}
use Rattle.page_flatten.specs.Elements.{elements, entries, Mention, mentions, ReferenceTo, references, arcs}
use Rattle.page_flatten.specs.Chains.{Resolves}

-- no id occurs twice in the list
abbrev pub AreDistinct : List (List ℕ) → Type 0
AreDistinct ids = (m n : ℕ) (id : List ℕ) → slice_get ids m ≡ Some id → slice_get ids n ≡ Some id → m ≡ n

-- the ids of the elements in document order
abbrev pub ids_of : NetTree → List (List ℕ)
ids_of net = map (λ element. element.id) (elements net)

-- elements by id and kind of node, as `entries` gives them: a node of this kind has the id
abbrev pub NamesNode : List (List ℕ × Option NodeKind) → List ℕ → NodeKind → Type 0
NamesNode table id kind = (n : ℕ) × (slice_get table n ≡ Some (id, Some kind))

-- what is mentioned is the id of a node
abbrev pub IsKnown : List (List ℕ × Option NodeKind) → Mention → Type 0
IsKnown table mention = (kind : NodeKind) × NamesNode table mention.id kind

-- a reference place names a place or a reference place, a reference transition likewise
abbrev pub NamesItsKind : List (List ℕ × Option NodeKind) → ReferenceTo → Type 0
NamesItsKind table reference = NamesNode table reference.target reference.kind

-- the chain from a reference node ends: what it names resolves
abbrev pub ItsChainEnds : NetTree → ReferenceTo → Type 0
ItsChainEnds net reference = (end : End) × Resolves (elements net) reference.target end

-- one is a place and the other a transition
abbrev pub IsPlaceAndTransition : End → End → Type 0
IsPlaceAndTransition (AtPlace p) (AtTransition t) = Unit
IsPlaceAndTransition (AtTransition t) (AtPlace p) = Unit
IsPlaceAndTransition _ _ = ⊥

-- the resolved ends of an arc are one place and one transition
pub record JoinsPlaceAndTransition (net : NetTree) (arc : ArcNode) : Type 0 where
  pub source : End
  pub target : End
  pub source_resolves : Resolves (elements net) arc.source source
  pub target_resolves : Resolves (elements net) arc.target target
  pub apart : IsPlaceAndTransition source target

-- the five rules in their order, for one net
abbrev pub HasDistinctIds : NetTree → Type 0
HasDistinctIds net = AreDistinct (ids_of net)

abbrev pub MentionsNodes : NetTree → Type 0
MentionsNodes net = AllByRecursion (IsKnown (entries net)) (flat_map mentions net.items)

abbrev pub KeepsKinds : NetTree → Type 0
KeepsKinds net = AllByRecursion (NamesItsKind (entries net)) (flat_map references net.items)

abbrev pub EndsChains : NetTree → Type 0
EndsChains net = AllByRecursion (ItsChainEnds net) (flat_map references net.items)

abbrev pub JoinsArcs : NetTree → Type 0
JoinsArcs net = AllByRecursion (JoinsPlaceAndTransition net) (flat_map arcs net.items)

-- the ids of all nets in document order
abbrev pub ids_in : List NetTree → List (List ℕ)
ids_in nets = flat_map ids_of nets

-- a document that breaks none of them
pub record BreaksNoRule (document : Document) : Type 0 where
  pub ids : AreDistinct (ids_in document.nets)
  pub mentions : AllByRecursion MentionsNodes document.nets
  pub kinds : AllByRecursion KeepsKinds document.nets
  pub chains : AllByRecursion EndsChains document.nets
  pub arcs : AllByRecursion JoinsArcs document.nets

-- x is the first member of the list that doesn't have the property
pub record IsFirstWithout {X : Type 0} (Property : X → Type 0) (list : List X) (x : X) : Type 0 where
  pub front : List X
  pub back : List X
  pub occurs : list ≡ front ++ x ∷ back
  pub before : AllByRecursion Property front
  pub lacks : Property x → ⊥

-- the id is the first of the list that comes before it already
pub record IsFirstRepeated (ids : List (List ℕ)) (id : List ℕ) : Type 0 where
  pub front : List (List ℕ)
  pub back : List (List ℕ)
  pub occurs : ids ≡ front ++ id ∷ back
  pub before : AreDistinct front
  pub earlier : ℕ
  pub repeated : slice_get front earlier ≡ Some id

-- each net has a list, and x is the first member of all of them that doesn't have its net's property: it is the
-- first one of its net, and the nets before have none
pub record IsFirstIn {X : Type 0} (list : NetTree → List X) (Property : NetTree → X → Type 0) (nets : List NetTree) (x : X) : Type 0 where
  pub net : NetTree
  pub net_is : IsFirstWithout (λ tree. AllByRecursion (Property tree) (list tree)) nets net
  pub first : IsFirstWithout (Property net) (list net) x

-- the first member of each kind that breaks its rule
abbrev pub IsFirstUnknownIn : List NetTree → Mention → Type 0
IsFirstUnknownIn nets mention = IsFirstIn (λ net. flat_map mentions net.items) (λ net. IsKnown (entries net)) nets mention

abbrev pub IsFirstOfWrongKindIn : List NetTree → ReferenceTo → Type 0
IsFirstOfWrongKindIn nets reference =
    IsFirstIn (λ net. flat_map references net.items) (λ net. NamesItsKind (entries net)) nets reference

abbrev pub IsFirstEndlessIn : List NetTree → ReferenceTo → Type 0
IsFirstEndlessIn nets reference = IsFirstIn (λ net. flat_map references net.items) (λ net. ItsChainEnds net) nets reference

abbrev pub IsFirstMisjoinedIn : List NetTree → ArcNode → Type 0
IsFirstMisjoinedIn nets arc = IsFirstIn (λ net. flat_map arcs net.items) (λ net. JoinsPlaceAndTransition net) nets arc

-- the first rule that a document breaks, with the ids of the first element in document order that breaks it
abbrev pub FirstBroken : Document → FlatFault → Type 0
FirstBroken document NoMemory = ⊥
FirstBroken document (DuplicateId id) = IsFirstRepeated (ids_in document.nets) id
FirstBroken document (UnknownId id by) =
    AreDistinct (ids_in document.nets) × IsFirstUnknownIn document.nets record { id = id; by = by }
FirstBroken document (RefKind id) =
    AreDistinct (ids_in document.nets) × AllByRecursion MentionsNodes document.nets
    × (reference : ReferenceTo) × IsFirstOfWrongKindIn document.nets reference × (reference.id ≡ id)
FirstBroken document (RefCycle id) =
    AreDistinct (ids_in document.nets) × AllByRecursion MentionsNodes document.nets × AllByRecursion KeepsKinds document.nets
    × (reference : ReferenceTo) × IsFirstEndlessIn document.nets reference × (reference.id ≡ id)
FirstBroken document (ArcEnds id) =
    AreDistinct (ids_in document.nets) × AllByRecursion MentionsNodes document.nets × AllByRecursion KeepsKinds document.nets
    × AllByRecursion EndsChains document.nets
    × (arc : ArcNode) × IsFirstMisjoinedIn document.nets arc × (arc.id ≡ id)
FirstBroken document (NoNet count) = ⊥

-- a fault that may be answered where the net of this number is asked for, counted from 0: out of memory, of which
-- nothing is said, the first broken rule, or else that there is no such net
abbrev pub IsAnswered : Document → ℕ → FlatFault → Type 0
IsAnswered document number NoMemory = Unit
IsAnswered document number (DuplicateId id) = FirstBroken document (DuplicateId id)
IsAnswered document number (UnknownId id by) = FirstBroken document (UnknownId id by)
IsAnswered document number (RefKind id) = FirstBroken document (RefKind id)
IsAnswered document number (RefCycle id) = FirstBroken document (RefCycle id)
IsAnswered document number (ArcEnds id) = FirstBroken document (ArcEnds id)
IsAnswered document number (NoNet count) =
    BreaksNoRule document × (count ≡ length document.nets) × (length document.nets ≤ number)
