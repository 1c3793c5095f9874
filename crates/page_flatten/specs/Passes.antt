-- What the passes over the nets of a document find, each with its rule. Only clauses of private functions and
-- lemmas cite these.
use Rattle.std.specs.Prelude.{◌≡◌, ◌≤◌, ℕ, List, Option, Some, length, slice_get, count_by}
use Rattle.std.specs.List.{AllByRecursion, AllZip, flat_map}
use Rattle.net_values.specs.declared.document.NetTree.{NetTree}
use Rattle.net_values.specs.declared.document.ArcNode.{ArcNode}
use Rattle.net_values.specs.declared.limits.TheConstants.{MAX_PLACES, MAX_TRANSITIONS, MAX_ARCS}
use Rattle.net_values.specs.declared.node_kind.NodeKind.{NodeKind}
use Rattle.net_values.specs.FlatNets.{NetLists}
use Rattle.net_values.specs.Items.{is_place, is_transition, is_arc}
use Rattle.pnml_grammar.specs.Valued.{HasValuesInRange}
use Rattle.page_flatten.specs.declared.fault.FlatFault.{FlatFault}
use Rattle.page_flatten.specs.declared.fault.FlatFault.TheVariants.{NoMemory, DuplicateId, UnknownId, RefKind, RefCycle, ArcEnds, NoNet}
use Rattle.page_flatten.specs.Elements.{ReferenceTo, entries, references, arcs}
use Rattle.page_flatten.specs.Flat.{FlatOf}
use Rattle.page_flatten.specs.Rules.{AreDistinct, ids_in, ItsChainEnds, JoinsPlaceAndTransition, JoinsArcs, IsFirstWithout, IsFirstRepeated, IsFirstUnknownIn, IsFirstOfWrongKindIn, IsFirstEndlessIn, IsFirstMisjoinedIn}

-- the table of a net
abbrev pub HasEntries : NetTree → List (List ℕ × Option NodeKind) → Type 0
HasEntries net table = table ≡ entries net

-- each net has its table, and no id occurs twice in the document
pub record AreNumbered (nets : List NetTree) (tables : List (List (List ℕ × Option NodeKind))) : Type 0 where
  pub each : AllZip HasEntries nets tables
  pub distinct : AreDistinct (ids_in nets)

-- a net that the flat net has room for, with values in range
pub record FitsLimits (net : NetTree) : Type 0 where
  pub places : count_by is_place net.items ≤ MAX_PLACES
  pub transitions : count_by is_transition net.items ≤ MAX_TRANSITIONS
  pub arcs : count_by is_arc net.items ≤ MAX_ARCS
  pub values : AllByRecursion HasValuesInRange net.items

-- the flat net of the net of this number, counted from 0
pub record IsFlatAt (nets : List NetTree) (number : ℕ) (net : NetLists) : Type 0 where
  pub tree : NetTree
  pub occurs : slice_get nets number ≡ Some tree
  pub flat : FlatOf tree net

-- what the fault of a numbering says of the ids. Out of memory says nothing, here and below
abbrev pub NamesRepeated : List (List ℕ) → FlatFault → Type 0
NamesRepeated ids NoMemory = Unit
NamesRepeated ids (DuplicateId id) = IsFirstRepeated ids id
NamesRepeated ids _ = ⊥

-- what the fault of each pass says of the nets
abbrev pub NamesUnknown : List NetTree → FlatFault → Type 0
NamesUnknown nets NoMemory = Unit
NamesUnknown nets (UnknownId id by) = IsFirstUnknownIn nets record { id = id; by = by }
NamesUnknown nets _ = ⊥

abbrev pub NamesWrongKind : List NetTree → FlatFault → Type 0
NamesWrongKind nets NoMemory = Unit
NamesWrongKind nets (RefKind id) = (reference : ReferenceTo) × IsFirstOfWrongKindIn nets reference × (reference.id ≡ id)
NamesWrongKind nets _ = ⊥

abbrev pub NamesEndless : List NetTree → FlatFault → Type 0
NamesEndless nets NoMemory = Unit
NamesEndless nets (RefCycle id) = (reference : ReferenceTo) × IsFirstEndlessIn nets reference × (reference.id ≡ id)
NamesEndless nets _ = ⊥

-- the last one also says that there is no net of the number that is asked for
abbrev pub NamesMisjoined : List NetTree → ℕ → FlatFault → Type 0
NamesMisjoined nets number NoMemory = Unit
NamesMisjoined nets number (ArcEnds id) = (arc : ArcNode) × IsFirstMisjoinedIn nets arc × (arc.id ≡ id)
NamesMisjoined nets number (NoNet count) =
    AllByRecursion JoinsArcs nets × (count ≡ length nets) × (length nets ≤ number)
NamesMisjoined nets number _ = ⊥

-- and of one net
abbrev pub NamesUnending : NetTree → FlatFault → Type 0
NamesUnending net NoMemory = Unit
NamesUnending net (RefCycle id) =
    (reference : ReferenceTo) × IsFirstWithout (ItsChainEnds net) (flat_map references net.items) reference × (reference.id ≡ id)
NamesUnending net _ = ⊥

abbrev pub NamesWrongArc : NetTree → FlatFault → Type 0
NamesWrongArc net NoMemory = Unit
NamesWrongArc net (ArcEnds id) =
    (arc : ArcNode) × IsFirstWithout (JoinsPlaceAndTransition net) (flat_map arcs net.items) arc × (arc.id ≡ id)
NamesWrongArc net _ = ⊥
