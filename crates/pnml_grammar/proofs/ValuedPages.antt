-- The pages of the items that a tree gives match: an element gives whole pages only, so that its items occur
-- in front of any items that match.
use Rattle.std.proofs.Common.{◌≡◌, ℕ, ◌+◌, ◌-◌, List, [], ◌∷◌, ◌++◌, refl, sym, subst, append_assoc, arith}
use Rattle.std.specs.List.{AllByRecursion}
use Rattle.std.proofs.lemmas.List.{append-nil}
use Rattle.net_values.specs.declared.document.Document.{Document}
use Rattle.net_values.specs.declared.document.NetTree.{NetTree}
use Rattle.net_values.specs.declared.document.Item.{Item}
use Rattle.net_values.specs.declared.document.Item.TheVariants.{Page, PageEnd}
use Rattle.net_values.specs.declared.document.PageNode.{PageNode}
use Rattle.pnml_grammar.specs.declared.element.Context.{Context}
use Rattle.pnml_grammar.specs.declared.element.Context.TheVariants as contexts
use Rattle.pnml_grammar.specs.declared.element.ElementKind.{ElementKind}
use Rattle.pnml_grammar.specs.declared.element.ElementKind.TheVariants as elements
use Rattle.pnml_grammar.specs.declared.token.Attribute.{Attribute}
use Rattle.pnml_grammar.specs.Elements.{context_of_text, context_of_kind}
use Rattle.pnml_grammar.specs.Contents.{Content, nothing, ◌then◌, first_value, id_in, gives, characters_content, cdata_content}
use Rattle.pnml_grammar.specs.Valued.{PagesMatch}
use Rattle.pnml_grammar.proofs.EachLaws.{each_append}
use Rattle.pnml_grammar.proofs.ValuedTrees.{IsKept}

-- the items are whole pages, and items on none
abbrev AreWhole : List Item → Type 0
AreWhole items = (opened : ℕ) (more : List Item) → PagesMatch opened more → PagesMatch opened (items ++ more)

abbrev pub HasWholePages : NetTree → Type 0
HasWholePages net = PagesMatch 0 net.items

abbrev pub HaveWholePages : Document → Type 0
HaveWholePages document = AllByRecursion HasWholePages document.nets

pub record GivesWholePages (c : Content) : Type 0 where
  pub documents : AllByRecursion HaveWholePages c.documents
  pub nets : AllByRecursion HasWholePages c.nets
  pub items : AreWhole c.items

nothing_whole : GivesWholePages nothing
nothing_whole = record { documents = tt; nets = tt; items = λ opened more match. match }

joined_whole : (a b : Content) → GivesWholePages a → GivesWholePages b → GivesWholePages (a then b)
joined_whole a b one other = record {
  documents = each_append HaveWholePages a.documents b.documents one.documents other.documents;
  nets = each_append HasWholePages a.nets b.nets one.nets other.nets;
  items = λ opened more match. subst (PagesMatch opened) (sym (append_assoc a.items b.items more)) (one.items opened (b.items ++ more) (other.items opened more match));
}

page_whole : (page : PageNode) (items : List Item) → AreWhole items → AreWhole (Page page ∷ items ++ PageEnd ∷ [])
page_whole page items whole opened more match =
    let same : opened ≡ opened + 1 - 1 = omega arith in
    subst (PagesMatch (opened + 1)) (sym (append_assoc items (PageEnd ∷ []) more)) (whole (opened + 1) (PageEnd ∷ more) (omega arith, subst (λ n. PagesMatch n more) same match))

items_whole : (items : List Item) → AreWhole items → GivesWholePages (record nothing { items = items })
items_whole items whole = record { documents = tt; nets = tt; items = whole }

text_whole : (context : Context) (attributes : List Attribute) (c : Content) → GivesWholePages (gives (context_of_text context) attributes c)
text_whole contexts.Name attributes c = record { documents = tt; nets = tt; items = λ opened more match. match }
text_whole context attributes c = record { documents = tt; nets = tt; items = λ opened more match. match }

element_whole : (context : Context) (kind : ElementKind) (attributes : List Attribute) (c : Content) → GivesWholePages c → GivesWholePages (gives (context_of_kind context kind) attributes c)
element_whole context elements.Pnml attributes c each = record { documents = (each.nets, tt); nets = tt; items = λ opened more match. match }
element_whole context elements.Net attributes c each = record {
  documents = tt;
  nets = (subst (PagesMatch 0) (append-nil c.items) (each.items 0 [] refl), tt);
  items = λ opened more match. match;
}
element_whole context elements.Page attributes c each = items_whole _ (page_whole record { id = id_in attributes; name = first_value c.names } c.items each.items)
element_whole context elements.Text attributes c each = text_whole context attributes c
element_whole context kind attributes c each = record { documents = tt; nets = tt; items = λ opened more match. match }

characters_whole : (context : Context) (value : List ℕ) → GivesWholePages (characters_content context value)
characters_whole contexts.NameText value = record { documents = tt; nets = tt; items = λ opened more match. match }
characters_whole context value = record { documents = tt; nets = tt; items = λ opened more match. match }

cdata_whole : (context : Context) (value : List ℕ) → GivesWholePages (cdata_content context value)
cdata_whole contexts.NameText value = record { documents = tt; nets = tt; items = λ opened more match. match }
cdata_whole context value = nothing_whole

-- what a tree gives are whole pages
pub pages_are_kept : IsKept (λ context h counts c. GivesWholePages c)
pages_are_kept = record {
  none_is = λ context. nothing_whole;
  skipped_is = λ h counts. nothing_whole;
  joined_is = λ context h i one other a b. joined_whole a b;
  characters_are = λ context value legal. characters_whole context value;
  cdata_is = λ context value legal. cdata_whole context value;
  element_is = λ context kind attributes h counts c tag legal filled. element_whole context kind attributes c;
}
