-- Items are counted by elements: what a tree gives has at most as many of each kind as the tree has elements.
use Rattle.std.proofs.Common.{ℕ, ◌≤◌, List, [], ◌∷◌, ◌++◌, sym, subst, append-nil, arith}
use Rattle.std.specs.Prelude.{count_by}
use Rattle.std.specs.List.{AllByRecursion}
use Rattle.std.proofs.lemmas.Grind.{flat_map-append}
use Rattle.net_values.specs.declared.document.Document.{Document}
use Rattle.net_values.specs.declared.document.NetTree.{NetTree}
use Rattle.net_values.specs.declared.document.Item.{Item}
use Rattle.net_values.specs.declared.document.Item.TheVariants.{Page, PageEnd}
use Rattle.net_values.specs.declared.document.PageNode.{PageNode}
use Rattle.net_values.specs.Items.{all_items, is_page, is_place, is_transition, is_arc, is_reference}
use Rattle.pnml_grammar.specs.declared.element.Context.{Context}
use Rattle.pnml_grammar.specs.declared.element.Context.TheVariants as contexts
use Rattle.pnml_grammar.specs.declared.element.ElementKind.{ElementKind}
use Rattle.pnml_grammar.specs.declared.element.ElementKind.TheVariants as elements
use Rattle.pnml_grammar.specs.declared.token.Attribute.{Attribute}
use Rattle.pnml_grammar.specs.Elements.{context_of_text, context_of_kind}
use Rattle.pnml_grammar.specs.Contents.{Content, nothing, ◌then◌, first_value, id_in, gives, characters_content, cdata_content}
use Rattle.pnml_grammar.specs.Counts.{Counts, no_counts, ◌plus◌, counts_of_kind}
use Rattle.pnml_grammar.proofs.EachLaws.{each_append, each_weaker, count_by_append}
use Rattle.pnml_grammar.proofs.ValuedTrees.{IsKept}

pub record AreCounted (counts : Counts) (items : List Item) : Type 0 where
  pub places : count_by is_place items ≤ counts.places
  pub transitions : count_by is_transition items ≤ counts.transitions
  pub arcs : count_by is_arc items ≤ counts.arcs
  pub references : count_by is_reference items ≤ counts.references
  pub pages : count_by is_page items ≤ counts.pages

none_counted : (counts : Counts) → AreCounted counts []
none_counted counts = omega arith

-- one list after the other
more_counted : (one other : Counts) (xs ys : List Item) → AreCounted one xs → AreCounted other ys → AreCounted (one plus other) (xs ++ ys)
more_counted one other xs ys a b = record {
  places = omega (arith, a.places, b.places, count_by_append is_place xs ys);
  transitions = omega (arith, a.transitions, b.transitions, count_by_append is_transition xs ys);
  arcs = omega (arith, a.arcs, b.arcs, count_by_append is_arc xs ys);
  references = omega (arith, a.references, b.references, count_by_append is_reference xs ys);
  pages = omega (arith, a.pages, b.pages, count_by_append is_page xs ys);
}

counted_first : (one other : Counts) (items : List Item) → AreCounted one items → AreCounted (one plus other) items
counted_first one other items a = omega (arith, a)

counted_second : (one other : Counts) (items : List Item) → AreCounted other items → AreCounted (one plus other) items
counted_second one other items a = omega (arith, a)

-- the items of all nets together
abbrev pub IsDocumentCounted : Counts → Document → Type 0
IsDocumentCounted counts document = AreCounted counts (all_items document.nets)

pub record GivesCounted (counts : Counts) (c : Content) : Type 0 where
  pub documents : AllByRecursion (IsDocumentCounted counts) c.documents
  pub nets : AreCounted counts (all_items c.nets)
  pub items : AreCounted counts c.items

nothing_counted : (counts : Counts) → GivesCounted counts nothing
nothing_counted counts = record { documents = tt; nets = none_counted _; items = none_counted counts }

joined_counted : (one other : Counts) (a b : Content) → GivesCounted one a → GivesCounted other b → GivesCounted (one plus other) (a then b)
joined_counted one other a b first second = record {
  documents = each_append (IsDocumentCounted (one plus other)) a.documents b.documents
      (each_weaker (IsDocumentCounted one) (IsDocumentCounted (one plus other)) (λ document. counted_first one other (all_items document.nets)) a.documents first.documents)
      (each_weaker (IsDocumentCounted other) (IsDocumentCounted (one plus other)) (λ document. counted_second one other (all_items document.nets)) b.documents second.documents);
  nets = subst (AreCounted (one plus other)) (sym (flat_map-append (λ (net : NetTree). net.items) a.nets b.nets))
      (more_counted one other (all_items a.nets) (all_items b.nets) first.nets second.nets);
  items = more_counted one other a.items b.items first.items second.items;
}

-- an item of one element
item_counted : (one counts : Counts) (item : Item) → AreCounted one (item ∷ []) → GivesCounted (one plus counts) (record nothing { items = item ∷ [] })
item_counted one counts item is = record { documents = tt; nets = none_counted _; items = counted_first one counts (item ∷ []) is }

page_counted : (page : PageNode) (counts : Counts) (items : List Item) → AreCounted counts items → AreCounted (counts_of_kind elements.Page plus counts) (Page page ∷ items ++ PageEnd ∷ [])
page_counted page counts items is = record {
  places = omega (arith, is.places, count_by_append is_place (Page page ∷ items) (PageEnd ∷ []), count_by_append is_place (Page page ∷ []) items);
  transitions = omega (arith, is.transitions, count_by_append is_transition (Page page ∷ items) (PageEnd ∷ []), count_by_append is_transition (Page page ∷ []) items);
  arcs = omega (arith, is.arcs, count_by_append is_arc (Page page ∷ items) (PageEnd ∷ []), count_by_append is_arc (Page page ∷ []) items);
  references = omega (arith, is.references, count_by_append is_reference (Page page ∷ items) (PageEnd ∷ []), count_by_append is_reference (Page page ∷ []) items);
  pages = omega (arith, is.pages, count_by_append is_page (Page page ∷ items) (PageEnd ∷ []), count_by_append is_page (Page page ∷ []) items);
}

text_counted : (context : Context) (attributes : List Attribute) (counts : Counts) (c : Content) → GivesCounted counts (gives (context_of_text context) attributes c)
text_counted contexts.Name attributes counts c = record { documents = tt; nets = none_counted _; items = none_counted counts }
text_counted context attributes counts c = record { documents = tt; nets = none_counted _; items = none_counted counts }

element_counted : (context : Context) (kind : ElementKind) (attributes : List Attribute) (counts : Counts) (c : Content) → GivesCounted counts c
    → GivesCounted (counts_of_kind kind plus counts) (gives (context_of_kind context kind) attributes c)
element_counted context elements.Pnml attributes counts c each = record {
  documents = (counted_second no_counts counts (all_items c.nets) each.nets, tt);
  nets = none_counted _;
  items = none_counted _;
}
element_counted context elements.Net attributes counts c each = record {
  documents = tt;
  nets = counted_second no_counts counts (c.items ++ []) (subst (AreCounted counts) (sym (append-nil c.items)) each.items);
  items = none_counted _;
}
element_counted context elements.Page attributes counts c each = record { documents = tt; nets = none_counted _; items = page_counted record { id = id_in attributes; name = first_value c.names } counts c.items each.items }
element_counted context elements.Place attributes counts c each = item_counted (counts_of_kind elements.Place) counts _ (omega arith)
element_counted context elements.Transition attributes counts c each = item_counted (counts_of_kind elements.Transition) counts _ (omega arith)
element_counted context elements.Arc attributes counts c each = item_counted (counts_of_kind elements.Arc) counts _ (omega arith)
element_counted context elements.ReferencePlace attributes counts c each =
    item_counted (counts_of_kind elements.ReferencePlace) counts _ (omega arith)
element_counted context elements.ReferenceTransition attributes counts c each =
    item_counted (counts_of_kind elements.ReferenceTransition) counts _ (omega arith)
element_counted context elements.Text attributes counts c each = text_counted context attributes _ c
element_counted context kind attributes counts c each = record { documents = tt; nets = none_counted _; items = none_counted _ }

characters_counted : (context : Context) (value : List ℕ) → GivesCounted no_counts (characters_content context value)
characters_counted contexts.NameText value = record { documents = tt; nets = none_counted _; items = none_counted no_counts }
characters_counted context value = record { documents = tt; nets = none_counted _; items = none_counted no_counts }

cdata_counted : (context : Context) (value : List ℕ) → GivesCounted no_counts (cdata_content context value)
cdata_counted contexts.NameText value = record { documents = tt; nets = none_counted _; items = none_counted no_counts }
cdata_counted context value = nothing_counted no_counts

-- what a tree gives is counted by its elements
pub counts_are_kept : IsKept (λ context h counts c. GivesCounted counts c)
counts_are_kept = record {
  none_is = λ context. nothing_counted no_counts;
  skipped_is = λ h counts. nothing_counted counts;
  joined_is = λ context h i one other a b. joined_counted one other a b;
  characters_are = λ context value legal. characters_counted context value;
  cdata_is = λ context value legal. cdata_counted context value;
  element_is = λ context kind attributes h counts c tag legal filled. element_counted context kind attributes counts c;
}
