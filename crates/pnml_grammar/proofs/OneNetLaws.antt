-- What one net only was spelled by spells the document of it: below the root each element gives what it gave, and a
-- root that gave one net gives the document of that net.
use Rattle.std.proofs.Common.{◌≡◌, ℕ, ◌≤◌, List, [], ◌∷◌, ◌++◌, append-nil, length, length-append, Option, Some, None, false, IsTrue, refl, sym, ap, ap₂, subst, ◌∙◌, arith, true≢false}
use Rattle.std.specs.Prelude.{codes}
use Rattle.std.specs.List.{AllByRecursion, flat_map}
use Rattle.std.proofs.lemmas.Bool.{and_parts, leb-true}
use Rattle.std.proofs.lemmas.Grind.{flat_map-append}
use Rattle.net_values.specs.declared.document.Document.{Document}
use Rattle.net_values.specs.declared.document.NetTree.{NetTree}
use Rattle.pnml_grammar.specs.declared.element.ElementKind.{ElementKind}
use Rattle.pnml_grammar.specs.declared.element.ElementKind.TheVariants as elements
use Rattle.pnml_grammar.specs.declared.element.Context.{Context}
use Rattle.pnml_grammar.specs.declared.element.Context.TheVariants as contexts
use Rattle.pnml_grammar.specs.declared.token.Attribute.{Attribute}
use Rattle.pnml_grammar.specs.Canon.{declaration, start_tag, attribute, namespace, net_text, end_tag, canon}
use Rattle.pnml_grammar.specs.Valued.{IsWithinLimits}
use Rattle.pnml_grammar.specs.Elements.{element_named, context_in, context_if_any, may_hold, may_occur, may_occur_as}
use Rattle.pnml_grammar.specs.Trees.{Node, element, empty_element, comment, instruction, cdata, characters, Nodes, none, ◌and◌}
use Rattle.pnml_grammar.specs.Contents.{Content, nothing, ◌then◌, gives, characters_content, cdata_content, node_content, nodes_content}
use Rattle.pnml_grammar.specs.Documents.{HasFew, is_complete, IsFilled, IsChild, EachChild}
use Rattle.pnml_grammar.specs.OneNet.{net_gives, node_given, nodes_given, HasOne, IsFilledOnce, IsNetChild, EachNetChild, net_canon, only, StaysForOneNet}
use Rattle.pnml_grammar.proofs.EachLaws.{each_append}
use Rattle.pnml_grammar.proofs.RowLaws.{is_outside}
use Rattle.pnml_grammar.proofs.ReadingTrees.{inside_element}
use Rattle.pnml_grammar.proofs.Missing.{root_is_outermost}

-- ---- below the root

-- the same content, with no document
record IsSame (old new : Content) : Type 0 where
  same : old ≡ new
  no_document : new.documents ≡ []

gives_same : (inner : Context) (attributes : List Attribute) (old new : Content) → (inner ≡ contexts.Pnml → ⊥) → old ≡ new → IsSame (net_gives inner attributes old) (gives inner attributes new)
gives_same contexts.Pnml attributes old new other same = absurd (other refl)
gives_same contexts.Document attributes old new other same = record { same = refl; no_document = refl }
gives_same inner attributes old new other same = record { same = ap (gives inner attributes) same; no_document = refl }

characters_same : (context : Context) (value : List ℕ) → (characters_content context value).documents ≡ []
characters_same contexts.NameText value = refl
characters_same contexts.MarkingText value = refl
characters_same contexts.WeightText value = refl
characters_same context value = refl

cdata_same : (context : Context) (value : List ℕ) → (cdata_content context value).documents ≡ []
cdata_same contexts.NameText value = refl
cdata_same context value = refl

-- a root is outermost
no_root : (context : Context) (name : List ℕ) (attributes : List Attribute) → is_outside context ≡ false → IsTrue (may_occur context name attributes) → context_in context (element_named name) ≡ contexts.Pnml → ⊥
no_root context name attributes inside occurs root = true≢false (sym (root_is_outermost context name attributes occurs root) ∙ inside)

mutual
  node_same : (context : Context) (node : Node) → is_outside context ≡ false → IsNetChild context node → IsSame (node_given context node) (node_content context node)
  node_same context (element name attributes children) inside child =
      let inner = context_in context (element_named name) in
      let below = nodes_same inner children (inside_element context (element_named name)) child.1 in
      gives_same inner attributes (nodes_given inner children) (nodes_content inner children) (no_root context name attributes inside child.0) below.same
  node_same context (empty_element name attributes) inside child =
      gives_same (context_in context (element_named name)) attributes nothing nothing (no_root context name attributes inside child.0) refl
  node_same context comment inside child = record { same = refl; no_document = refl }
  node_same context instruction inside child = record { same = refl; no_document = refl }
  node_same context (cdata value) inside child = record { same = refl; no_document = cdata_same context value }
  node_same context (characters value) inside child = record { same = refl; no_document = characters_same context value }

  nodes_same : (context : Context) (nodes : Nodes) → is_outside context ≡ false → EachNetChild context nodes → IsSame (nodes_given context nodes) (nodes_content context nodes)
  nodes_same context none inside each = record { same = refl; no_document = refl }
  nodes_same context (node and nodes) inside each =
      let first = node_same context node inside each.0 in
      let others = nodes_same context nodes inside each.1 in
      record { same = ap₂ ◌then◌ first.same others.same; no_document = ap₂ ◌++◌ first.no_document others.no_document }

-- ---- children

few_once : (content : Content) → HasOne content → content.documents ≡ [] → HasFew content
few_once content one lacks = let short : length content.documents ≡ 0 = ap length lacks in omega (arith, one)

filled_once : (context : Context) (old new : Content) → IsSame old new → IsFilledOnce context old → IsFilled context new
filled_once context old new is filled = record {
  few = few_once new (subst HasOne is.same filled.few) is.no_document;
  complete = subst (λ content. IsTrue (is_complete context content)) is.same filled.complete;
}

mutual
  child_stays : (context : Context) (node : Node) → IsNetChild context node → IsChild context node
  child_stays context (element name attributes children) child =
      let inner = context_in context (element_named name) in
      let below = nodes_same inner children (inside_element context (element_named name)) child.1 in
      (child.0, children_stay inner children child.1, filled_once inner (nodes_given inner children) (nodes_content inner children) below child.2)
  child_stays context (empty_element name attributes) child =
      (child.0, filled_once (context_in context (element_named name)) nothing nothing (record { same = refl; no_document = refl }) child.1)
  child_stays context comment child = tt
  child_stays context instruction child = tt
  child_stays context (cdata value) child = child
  child_stays context (characters value) child = child

  children_stay : (context : Context) (nodes : Nodes) → EachNetChild context nodes → EachChild context nodes
  children_stay context none each = tt
  children_stay context (node and nodes) each = (child_stays context node each.0, children_stay context nodes each.1)

-- ---- around the root

abbrev nets_of : List Document → List NetTree
nets_of documents = flat_map (λ document. document.nets) documents

abbrev HasNet : Document → Type 0
HasNet document = 1 ≤ length document.nets

-- what was given are the nets of the documents, each of which has one
record AreNets (old new : Content) : Type 0 where
  nets : old.nets ≡ nets_of new.documents
  each : AllByRecursion HasNet new.documents

root_nets : (kind : Option ElementKind) (attributes : List Attribute) (old new : Content) → IsTrue (may_occur_as contexts.Document kind attributes) → old ≡ new
    → IsTrue (is_complete (context_if_any contexts.Document kind) new)
    → AreNets (net_gives (context_if_any contexts.Document kind) attributes old) (gives (context_if_any contexts.Document kind) attributes new)
root_nets None attributes old new occurs same complete = absurd (true≢false (sym occurs))
root_nets (Some elements.Pnml) attributes old new occurs same complete =
    record { nets = ap (λ (c : Content). c.nets) same ∙ sym (append-nil new.nets); each = (leb-true 1 (length new.nets) complete, tt) }
root_nets (Some kind) attributes old new occurs same complete = absurd (true≢false (sym (and_parts _ (may_hold contexts.Document kind) occurs).1))

node_nets : (node : Node) → IsNetChild contexts.Document node → AreNets (node_given contexts.Document node) (node_content contexts.Document node)
node_nets (element name attributes children) child =
    let inner = context_in contexts.Document (element_named name) in
    let below = nodes_same inner children (inside_element contexts.Document (element_named name)) child.1 in
    root_nets (element_named name) attributes (nodes_given inner children) (nodes_content inner children) child.0 below.same
    (filled_once inner (nodes_given inner children) (nodes_content inner children) below child.2).complete
node_nets (empty_element name attributes) child = root_nets (element_named name) attributes nothing nothing child.0 refl child.1.complete
node_nets comment child = record { nets = refl; each = tt }
node_nets instruction child = record { nets = refl; each = tt }
node_nets (cdata value) child = record { nets = refl; each = tt }
node_nets (characters value) child = record { nets = refl; each = tt }

nodes_nets : (nodes : Nodes) → EachNetChild contexts.Document nodes → AreNets (nodes_given contexts.Document nodes) (nodes_content contexts.Document nodes)
nodes_nets none each = record { nets = refl; each = tt }
nodes_nets (node and nodes) each =
    let first = node_nets node each.0 in
    let others = nodes_nets nodes each.1 in
    let one = (node_content contexts.Document node).documents in
    let more = (nodes_content contexts.Document nodes).documents in
    record {
      nets = ap₂ ◌++◌ first.nets others.nets ∙ sym (flat_map-append (λ (document : Document). document.nets) one more);
      each = each_append HasNet one more first.each others.each;
    }

-- ---- one net

no_documents : (documents : List Document) → AllByRecursion HasNet documents → length (nets_of documents) ≡ 0 → documents ≡ []
no_documents [] each e = refl
no_documents (document ∷ documents) each e = absurd (omega (arith, e, each.0, length-append document.nets (nets_of documents)))

with_nets : List NetTree → List Document → List Document
with_nets nets documents = record { nets = nets } ∷ documents

one_document : (documents : List Document) (net : NetTree) → AllByRecursion HasNet documents → net ∷ [] ≡ nets_of documents → documents ≡ only net ∷ []
unfolding with_nets
one_document [] net each e = absurd cc
one_document (document ∷ documents) net each e =
    let one = ap length e in
    let gone : documents ≡ [] = no_documents documents each.1 (omega (arith, one, each.0, length-append document.nets (nets_of documents))) in
    let nets : document.nets ≡ net ∷ [] = sym (append-nil document.nets) ∙ (ap (λ (others : List Document). document.nets ++ nets_of others) (sym gone) ∙ sym e) in
    ap₂ with_nets nets gone

same_text : (net : NetTree) → canon (only net) ≡ net_canon net
unfolding canon net_canon
same_text net =
    ap (λ (t : List ℕ). declaration ++ start_tag (codes "pnml") (attribute (codes "xmlns") namespace) ++ t ++ end_tag (codes "pnml") ++ 10 ∷ []) (append-nil (net_text net))

pub stays_for_one_net : StaysForOneNet
stays_for_one_net net bytes is =
    let spells = is.spells in
    let nodes = spells.nodes in
    let given = nodes_nets nodes spells.each in
    let documents = (nodes_content contexts.Document nodes).documents in
    let items : net.items ≡ net.items ++ [] = sym (append-nil net.items) in (
      record {
        list = is.list;
        tokens_are = is.tokens_are;
        spells = record {
          declared = spells.declared;
          nodes = nodes;
          list_is = spells.list_is;
          each = children_stay contexts.Document nodes spells.each;
          shallow = spells.shallow;
          counted = spells.counted;
          one = one_document documents net given.each (sym spells.one ∙ given.nets);
          valued = record { some = omega arith; few = omega arith; nets = (spells.valued, tt); limits = subst IsWithinLimits items spells.limits };
        };
      },
      same_text net,
    )
