-- What the fault of a part says of the whole: of one reference or arc for its list, of one item's list for the
-- lists of all items.
use Rattle.std.proofs.Common.{◌≡◌, sym, subst, ℕ, List, [], ◌∷◌, Option, Result, Ok, Err, IfErr, IsErrAnd}
use Rattle.net_values.specs.declared.document.RefNode.{RefNode}
use Rattle.net_values.specs.declared.document.ArcNode.{ArcNode}
use Rattle.page_flatten.specs.declared.fault.FlatFault.{FlatFault}
use Rattle.page_flatten.specs.declared.fault.FlatFault.TheVariants.{NoMemory, DuplicateId, UnknownId, RefKind, RefCycle, ArcEnds, NoNet}
use Rattle.page_flatten.specs.declared.links.Link.{Link}
use Rattle.net_values.specs.declared.node_kind.NodeKind.{NodeKind}
use Rattle.page_flatten.specs.Elements.{Mention, ReferenceTo, reference_of}
use Rattle.page_flatten.specs.Rules.{IsKnown, NamesItsKind, IsFirstWithout}
use Rattle.page_flatten.specs.declared.rules.NameRule.{NameRule}
use Rattle.page_flatten.specs.declared.rules.NameRule.TheVariants.{Mentions, Kinds}
use Rattle.page_flatten.specs.Names.{Looked, IsKept, IsFirstBreaking}
use Rattle.page_flatten.specs.Tables.{ItsLinksEnd, LinksJoin, IsFirstUnknown, IsFirstOfWrongKind, IsFirstEndless, IsFirstMisjoined, IsEndless, IsMisjoined}
use Rattle.page_flatten.proofs.Passes.{first_only}

-- from what holds of the fault to what is asked of it
pub err_then : {T E : Type 0} (P Q : E → Type 0) (r : Result T E) → ((e : E) → P e → Q e) → IfErr r P → IfErr r Q
err_then P Q (Ok x) then h = tt
err_then P Q (Err e) then h = then e h

-- an error that is passed on
pub err_goes : {T E : Type 0} (P : E → Type 0) (r : Result T E) (e : E) → IsErrAnd r (λ x. x ≡ e) → P e → IfErr r P
err_goes P (Ok x) e goes h = absurd goes
err_goes P (Err x) e goes h = subst P (sym goes) h

module _ (table : List (List ℕ × Option NodeKind)) where
  -- the fault of a list moves to another list where the first of the one is the first of the other
  pub unknown_moves : (xs ys : List Mention) → ((x : Mention) → IsFirstWithout (IsKnown table) xs x → IsFirstWithout (IsKnown table) ys x) → (fault : FlatFault) → IsFirstUnknown table xs fault → IsFirstUnknown table ys fault
  unknown_moves xs ys moves NoMemory h = tt
  unknown_moves xs ys moves (DuplicateId id) h = absurd h
  unknown_moves xs ys moves (UnknownId id by) h = moves record { id = id; by = by } h
  unknown_moves xs ys moves (RefKind id) h = absurd h
  unknown_moves xs ys moves (RefCycle id) h = absurd h
  unknown_moves xs ys moves (ArcEnds id) h = absurd h
  unknown_moves xs ys moves (NoNet count) h = absurd h

  wrong_kind_moves : (xs ys : List ReferenceTo) → ((x : ReferenceTo) → IsFirstWithout (NamesItsKind table) xs x → IsFirstWithout (NamesItsKind table) ys x) → (fault : FlatFault) → IsFirstOfWrongKind table xs fault → IsFirstOfWrongKind table ys fault
  wrong_kind_moves xs ys moves NoMemory h = tt
  wrong_kind_moves xs ys moves (DuplicateId id) h = absurd h
  wrong_kind_moves xs ys moves (UnknownId id by) h = absurd h
  wrong_kind_moves xs ys moves (RefKind id) h = (h.0, moves h.0 h.1, h.2)
  wrong_kind_moves xs ys moves (RefCycle id) h = absurd h
  wrong_kind_moves xs ys moves (ArcEnds id) h = absurd h
  wrong_kind_moves xs ys moves (NoNet count) h = absurd h

  pub breaking_moves : (rule : NameRule) (xs ys : List (Looked rule)) → ((x : Looked rule) → IsFirstWithout (IsKept rule table) xs x → IsFirstWithout (IsKept rule table) ys x) → (fault : FlatFault) → IsFirstBreaking rule table xs fault → IsFirstBreaking rule table ys fault
  breaking_moves Mentions = unknown_moves
  breaking_moves Kinds = wrong_kind_moves

  pub endless_moves : (links other : List Link) (xs ys : List ReferenceTo) → ((x : ReferenceTo) → IsFirstWithout (ItsLinksEnd table links) xs x → IsFirstWithout (ItsLinksEnd table other) ys x) → (fault : FlatFault) → IsFirstEndless table links xs fault → IsFirstEndless table other ys fault
  endless_moves links other xs ys moves NoMemory h = tt
  endless_moves links other xs ys moves (DuplicateId id) h = absurd h
  endless_moves links other xs ys moves (UnknownId id by) h = absurd h
  endless_moves links other xs ys moves (RefKind id) h = absurd h
  endless_moves links other xs ys moves (RefCycle id) h = (h.0, moves h.0 h.1, h.2)
  endless_moves links other xs ys moves (ArcEnds id) h = absurd h
  endless_moves links other xs ys moves (NoNet count) h = absurd h

  module _ (links : List Link) where
    pub misjoined_moves : (xs ys : List ArcNode) → ((x : ArcNode) → IsFirstWithout (LinksJoin table links) xs x → IsFirstWithout (LinksJoin table links) ys x) → (fault : FlatFault) → IsFirstMisjoined table links xs fault → IsFirstMisjoined table links ys fault
    misjoined_moves xs ys moves NoMemory h = tt
    misjoined_moves xs ys moves (DuplicateId id) h = absurd h
    misjoined_moves xs ys moves (UnknownId id by) h = absurd h
    misjoined_moves xs ys moves (RefKind id) h = absurd h
    misjoined_moves xs ys moves (RefCycle id) h = absurd h
    misjoined_moves xs ys moves (ArcEnds id) h = (h.0, moves h.0 h.1, h.2)
    misjoined_moves xs ys moves (NoNet count) h = absurd h

    -- the fault of one reference node is that of the list of it only
    pub endless_only : (kind : NodeKind) (node : RefNode) (fault : FlatFault) → IsEndless table links node fault → IsFirstEndless table links (reference_of kind node ∷ []) fault
    endless_only kind node NoMemory h = tt
    endless_only kind node (DuplicateId id) h = absurd h
    endless_only kind node (UnknownId id by) h = absurd h
    endless_only kind node (RefKind id) h = absurd h
    endless_only kind node (RefCycle id) h = (reference_of kind node, first_only (ItsLinksEnd table links) (reference_of kind node) (λ ends. h.1 ends.0 ends.1), sym h.0)
    endless_only kind node (ArcEnds id) h = absurd h
    endless_only kind node (NoNet count) h = absurd h

    -- and that of one arc
    pub misjoined_only : (arc : ArcNode) (fault : FlatFault) → IsMisjoined table links arc fault → IsFirstMisjoined table links (arc ∷ []) fault
    misjoined_only arc NoMemory h = tt
    misjoined_only arc (DuplicateId id) h = absurd h
    misjoined_only arc (UnknownId id by) h = absurd h
    misjoined_only arc (RefKind id) h = absurd h
    misjoined_only arc (RefCycle id) h = absurd h
    misjoined_only arc (ArcEnds id) h = (arc, first_only (LinksJoin table links) arc h.1, sym h.0)
    misjoined_only arc (NoNet count) h = absurd h
