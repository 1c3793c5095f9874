-- All items of the canonical text, by induction on the flat items with the list of open pages as data: an open
-- page holds the items that have occurred on it, and the whole is what the net has when each of them is closed.
use Rattle.std.proofs.Common.{◌≡◌, ℕ, ◌+◌, ◌-◌, ◌≤◌, cond, List, [], ◌∷◌, ◌++◌, Option, length, refl, sym, ap, subst, ◌∙◌, arith, append_assoc, append-nil}
use Rattle.std.specs.Prelude.{codes, count_by}
use Rattle.std.specs.List.{AllByRecursion}
use Rattle.std.proofs.lemmas.List.Sums.{sum_by-cons}
use Rattle.net_values.specs.declared.limits.TheConstants.{MAX_OPEN_ELEMENTS}
use Rattle.net_values.specs.Items.{is_page, is_place, is_transition, is_arc, is_reference}
use Rattle.net_values.specs.declared.document.NetTree.{NetTree}
use Rattle.net_values.specs.declared.document.PageNode.{PageNode}
use Rattle.net_values.specs.declared.document.Item.{Item}
use Rattle.net_values.specs.declared.document.Item.TheVariants.{Page, PageEnd}
use Rattle.pnml_grammar.specs.declared.element.Context.TheVariants as contexts
use Rattle.pnml_grammar.specs.declared.token.Token.{Token}
use Rattle.pnml_grammar.specs.Contents.{nothing}
use Rattle.pnml_grammar.specs.Counts.{Counts, no_counts, ◌plus◌, counts_of_kind, IsWithin}
use Rattle.pnml_grammar.specs.Valued.{HasValuesInRange, item_height, PagesMatch, IsShallow}
use Rattle.pnml_grammar.specs.OpenElements.{Frame, State, outermost}
use Rattle.pnml_grammar.specs.Machine.{receive}
use Rattle.pnml_grammar.proofs.CanonTokens.{element_tokens, id_of, type_of, namespace_of, name_tokens, item_tokens, items_tokens}
use Rattle.pnml_grammar.proofs.MachineRuns.{Leads, leads_nowhere, leads_on}
use Rattle.pnml_grammar.proofs.CanonLabels.{plus_none, counts_are, names_of, named, frame}
use Rattle.pnml_grammar.proofs.CanonItems.{kind_of, IsHolder, IsNode, node_reads, page_opens, empty_page_reads, page_closes}

-- ---- counts

abbrev pub items_counts : List Item → Counts
items_counts items = record {
  places = count_by is_place items;
  transitions = count_by is_transition items;
  arcs = count_by is_arc items;
  references = count_by is_reference items;
  pages = count_by is_page items;
}

-- what an item counts
abbrev pub own_counts : Item → Counts
own_counts item = record {
  places = cond (is_place item) 1 0;
  transitions = cond (is_transition item) 1 0;
  arcs = cond (is_arc item) 1 0;
  references = cond (is_reference item) 1 0;
  pages = cond (is_page item) 1 0;
}

kind_counts : (item : Item) → IsNode item → counts_of_kind (kind_of item) ≡ own_counts item
kind_counts (Page page) node = absurd node
kind_counts PageEnd node = absurd node
kind_counts _ node = refl

counted : (counts : Counts) (item : Item) (items : List Item) → counts plus items_counts (item ∷ items) ≡ (counts plus own_counts item) plus items_counts items
counted counts item items =
    counts_are _ _ _ _ _ _ _ _ _ _
    (omega (arith, sum_by-cons (λ x. cond (is_place x) 1 0) item items))
    (omega (arith, sum_by-cons (λ x. cond (is_transition x) 1 0) item items))
    (omega (arith, sum_by-cons (λ x. cond (is_arc x) 1 0) item items))
    (omega (arith, sum_by-cons (λ x. cond (is_reference x) 1 0) item items))
    (omega (arith, sum_by-cons (λ x. cond (is_page x) 1 0) item items))

-- counts within the limits are so in part
within_front : (counts more : Counts) → IsWithin (counts plus more) → IsWithin counts
within_front counts more within = record {
  places = omega (arith, within.places);
  transitions = omega (arith, within.transitions);
  arcs = omega (arith, within.arcs);
  references = omega (arith, within.references);
  pages = omega (arith, within.pages);
}

page_end_counted : (items : List Item) → items_counts (PageEnd ∷ items) ≡ items_counts items
page_end_counted items =
    counts_are _ _ _ _ _ _ _ _ _ _
    (sum_by-cons (λ x. cond (is_place x) 1 0) PageEnd items ∙ omega arith)
    (sum_by-cons (λ x. cond (is_transition x) 1 0) PageEnd items ∙ omega arith)
    (sum_by-cons (λ x. cond (is_arc x) 1 0) PageEnd items ∙ omega arith)
    (sum_by-cons (λ x. cond (is_reference x) 1 0) PageEnd items ∙ omega arith)
    (sum_by-cons (λ x. cond (is_page x) 1 0) PageEnd items ∙ omega arith)

and_back : (n : ℕ) → n + 1 - 1 ≡ n
and_back n = omega arith

around_end : (front inner : List Item) (end : Item) (more : List Item) → (front ++ (inner ++ end ∷ [])) ++ more ≡ (front ++ inner) ++ (end ∷ more)
around_end front inner end more = simp append_assoc

-- ---- nodes among the items

shallow_node : (item : Item) (more : List Item) (n : ℕ) → IsNode item → IsShallow n (item ∷ more) → (n + item_height item ≤ MAX_OPEN_ELEMENTS) × IsShallow n more
shallow_node (Page page) more n node shallow = absurd node
shallow_node PageEnd more n node shallow = absurd node
shallow_node _ more n node shallow = shallow

pages_node : (item : Item) (more : List Item) (n : ℕ) → IsNode item → PagesMatch n (item ∷ more) → PagesMatch n more
pages_node (Page page) more n node pages = absurd node
pages_node PageEnd more n node pages = absurd node
pages_node _ more n node pages = pages

tokens_node : (item : Item) (more : List Item) → IsNode item → item_tokens item ++ items_tokens more ≡ items_tokens (item ∷ more)
tokens_node (Page page) more node = absurd node
tokens_node PageEnd more node = absurd node
tokens_node _ more node = refl

-- ---- open pages

pub record OpenPage : Type 0 where
  pub page : PageNode
  pub items : List Item

abbrev pub page_frame : OpenPage → Frame
page_frame p = frame contexts.Page (codes "page") (id_of p.page.id ∷ []) (record (named p.page.name) { items = p.items })

-- the root after these nets
abbrev pub root_frame : List NetTree → Frame
root_frame nets = frame contexts.Pnml (codes "pnml") (namespace_of ∷ []) (record nothing { nets = nets })

-- what is around a net
abbrev pub around : List NetTree → List Frame
around nets = root_frame nets ∷ outermost ∷ []

module _ (before : List NetTree) (id : List ℕ) (name : Option (List ℕ)) where
  abbrev pub net_frame : List Item → Frame
  net_frame items = frame contexts.Net (codes "net") (id_of id ∷ type_of ∷ []) (record (named name) { items = items })

  -- the items that the net has outside the open pages, and those pages, innermost first
  abbrev pub top_of : List Item → List OpenPage → Frame
  top_of items [] = net_frame items
  top_of items (p ∷ ps) = page_frame p

  abbrev pub under_of : List Item → List OpenPage → List Frame
  under_of items [] = around before
  under_of items (p ∷ ps) = top_of items ps ∷ under_of items ps

  abbrev pub state_of : List Item → List OpenPage → Counts → State
  state_of items ps counts = record { top = top_of items ps; under = under_of items ps; counts = counts }

  -- more items in the innermost of them
  abbrev net_with : List Item → List OpenPage → List Item → List Item
  net_with items [] more = items ++ more
  net_with items (p ∷ ps) more = items

  abbrev pages_with : List OpenPage → List Item → List OpenPage
  pages_with [] more = []
  pages_with (p ∷ ps) more = record p { items = p.items ++ more } ∷ ps

  -- the items in document order
  abbrev pub flat : List Item → List OpenPage → List Item
  flat items [] = items
  flat items (p ∷ ps) = flat items ps ++ Page p.page ∷ p.items

  flat_with : (items : List Item) (ps : List OpenPage) (more : List Item) → flat (net_with items ps more) (pages_with ps more) ≡ flat items ps ++ more
  flat_with items [] more = refl
  flat_with items (p ∷ ps) more = sym (append_assoc (flat items ps) (Page p.page ∷ p.items) more)

  length_with : (ps : List OpenPage) (more : List Item) → length (pages_with ps more) ≡ length ps
  length_with [] more = refl
  length_with (p ∷ ps) more = refl

  under_length : (items : List Item) (ps : List OpenPage) → length (under_of items ps) ≡ 2 + length ps
  under_length items [] = refl
  under_length items (p ∷ ps) = omega (arith, under_length items ps)

  holds : (items : List Item) (ps : List OpenPage) → IsHolder (top_of items ps).context
  holds items [] = tt
  holds items (p ∷ ps) = tt

  state_with : (items : List Item) (ps : List OpenPage) (more : List Item) (counts : Counts)
      → ◌≡◌ {A = State} (record { top = receive (record nothing { items = more }) (top_of items ps); under = under_of items ps; counts = counts }) (state_of (net_with items ps more) (pages_with ps more) counts)
  state_with items [] more counts =
      let names = append-nil (names_of name) in
      λ i. record { top = frame contexts.Net (codes "net") (id_of id ∷ type_of ∷ []) (record nothing { names = names i; items = items ++ more }); under = around before; counts = counts }
  state_with items (p ∷ ps) more counts =
      let names = append-nil (names_of p.page.name) in
      λ i. record { top = frame contexts.Page (codes "page") (id_of p.page.id ∷ []) (record nothing { names = names i; items = p.items ++ more }); under = under_of items (p ∷ ps); counts = counts }

  -- ---- one item, and then the others

  -- the items, with these pages open, and with each page closed after them
  abbrev Claim : List Item → Type 0
  Claim more =
      (items : List Item) (ps : List OpenPage) (counts : Counts) → AllByRecursion HasValuesInRange more → PagesMatch (length ps) more → IsShallow (2 + length ps) more
      → IsWithin (counts plus items_counts more)
      → Leads (state_of items ps counts) (items_tokens more) (state_of (flat items ps ++ more) [] (counts plus items_counts more))

  -- the tokens of these items, and then of the others
  then_others : (more : List Item) (items : List Item) (ps : List OpenPage) (these : List Item) (counts : Counts) (before : State) (list : List Token) → Claim more
      → Leads before list (record { top = receive (record nothing { items = these }) (top_of items ps); under = under_of items ps; counts = counts })
      → AllByRecursion HasValuesInRange more → PagesMatch (length ps) more → IsShallow (2 + length ps) more → IsWithin (counts plus items_counts more)
      → Leads before (list ++ items_tokens more) (state_of ((flat items ps ++ these) ++ more) [] (counts plus items_counts more))
  then_others more items ps these counts before list claim first range pages shallow within =
      let wider = net_with items ps these in
      let inner = pages_with ps these in
      let one = subst (λ state. Leads before list state) (state_with items ps these counts) first in
      let matched = subst (λ (n : ℕ). PagesMatch n more) (sym (length_with ps these)) pages in
      let low = subst (λ (n : ℕ). IsShallow (2 + n) more) (sym (length_with ps these)) shallow in
      let others = claim wider inner counts range matched low within in
      subst (λ (all : List Item). Leads before (list ++ items_tokens more) (state_of (all ++ more) [] (counts plus items_counts more))) (flat_with items ps these)
      (leads_on before (state_of wider inner counts) (state_of (flat wider inner ++ more) [] (counts plus items_counts more)) list (items_tokens more) one others)

  -- to the same, otherwise written
  arrives : (before : State) (list other : List Token) (all whole : List Item) (counts sum : Counts) → list ≡ other → all ≡ whole → counts ≡ sum → Leads before list (state_of all [] counts)
      → Leads before other (state_of whole [] sum)
  arrives before list other all whole counts sum e0 e1 e2 leads =
      subst (λ l. Leads before l (state_of whole [] sum)) e0 (subst (λ a. Leads before list (state_of a [] sum)) e1 (subst (λ c. Leads before list (state_of all [] c)) e2 leads))

  node_claim : (item : Item) (more : List Item) → IsNode item → Claim more → Claim (item ∷ more)
  node_claim item more node claim items ps counts range pages shallow within =
      let kind = kind_counts item node in
      let some = subst IsWithin (counted counts item more) within in
      let low = shallow_node item more (2 + length ps) node shallow in
      let one : Leads (state_of items ps counts) (item_tokens item) (record { top = receive (record nothing { items = item ∷ [] }) (top_of items ps); under = under_of items ps; counts = counts plus own_counts item }) =
      subst (λ own. Leads (state_of items ps counts) (item_tokens item) (record { top = receive (record nothing { items = item ∷ [] }) (top_of items ps); under = under_of items ps; counts = counts plus own })) kind
      (node_reads (top_of items ps) (under_of items ps) counts (holds items ps) item node range.0 (subst (λ (n : ℕ). n + item_height item ≤ MAX_OPEN_ELEMENTS) (sym (under_length items ps)) low.0)
      (subst (λ own. IsWithin (counts plus own)) (sym kind) (within_front (counts plus own_counts item) (items_counts more) some)))
      in
      let all = then_others more items ps (item ∷ []) (counts plus own_counts item) (state_of items ps counts) (item_tokens item) claim one range.1 (pages_node item more (length ps) node pages) low.1 some in
      arrives (state_of items ps counts) (item_tokens item ++ items_tokens more) (items_tokens (item ∷ more)) (flat items ps ++ item ∷ [] ++ more) (flat items ps ++ item ∷ more)
      ((counts plus own_counts item) plus items_counts more) (counts plus items_counts (item ∷ more))
      (tokens_node item more node) (append_assoc (flat items ps) (item ∷ []) more) (sym (counted counts item more)) all

  -- ---- pages

  empty_page_claim : (page : PageNode) (more : List Item) → Claim more → Claim (Page page ∷ PageEnd ∷ more)
  empty_page_claim page more claim items ps counts range pages shallow within =
      let n = length ps in
      let own = counts plus own_counts (Page page) in
      let gone : items_counts (PageEnd ∷ more) ≡ items_counts more = page_end_counted more in
      let some : IsWithin (own plus items_counts more) = subst (λ rest. IsWithin (own plus rest)) gone (subst IsWithin (counted counts (Page page) (PageEnd ∷ more)) within) in
      let these = Page page ∷ PageEnd ∷ [] in
      let one =
      empty_page_reads (top_of items ps) (under_of items ps) counts (holds items ps) page range.0
      (subst (λ (n : ℕ). n + item_height (Page page) ≤ MAX_OPEN_ELEMENTS) (sym (under_length items ps)) shallow.0) (within_front own (items_counts more) some)
      in
      let all =
      then_others more items ps these own (state_of items ps counts) (element_tokens (codes "page") (id_of page.id ∷ []) (name_tokens page.name)) claim one range.1.1
      (subst (λ (n : ℕ). PagesMatch n more) (and_back n) pages.1) (subst (λ (n : ℕ). IsShallow n more) (and_back (2 + n)) shallow.1) some
      in
      arrives (state_of items ps counts) _ (items_tokens (Page page ∷ PageEnd ∷ more)) (flat items ps ++ these ++ more) (flat items ps ++ Page page ∷ PageEnd ∷ more)
      (own plus items_counts more) (counts plus items_counts (Page page ∷ PageEnd ∷ more))
      refl (append_assoc (flat items ps) these more) (sym (counted counts (Page page) (PageEnd ∷ more) ∙ ap (λ rest. own plus rest) gone)) all

  page_claim : (page : PageNode) (more : List Item) → item_tokens (Page page) ++ items_tokens more ≡ items_tokens (Page page ∷ more) → Claim more → Claim (Page page ∷ more)
  page_claim page more tokens claim items ps counts range pages shallow within =
      let n = length ps in
      let own = counts plus own_counts (Page page) in
      let some : IsWithin (own plus items_counts more) = subst IsWithin (counted counts (Page page) more) within in
      let within_page = record { page = page; items = [] } ∷ ps in
      let one : Leads (state_of items ps counts) (item_tokens (Page page)) (state_of items within_page own) =
      page_opens (top_of items ps) (under_of items ps) counts (holds items ps) page range.0
      (subst (λ (n : ℕ). n + item_height (Page page) ≤ MAX_OPEN_ELEMENTS) (sym (under_length items ps)) shallow.0) (within_front own (items_counts more) some)
      in
      let others = claim items within_page own range.1 (subst (λ (n : ℕ). PagesMatch n more) (omega arith) pages) (subst (λ (n : ℕ). IsShallow n more) (omega arith) shallow.1) some in
      arrives (state_of items ps counts) (item_tokens (Page page) ++ items_tokens more) (items_tokens (Page page ∷ more)) (flat items ps ++ Page page ∷ [] ++ more) (flat items ps ++ Page page ∷ more)
      (own plus items_counts more) (counts plus items_counts (Page page ∷ more))
      tokens (append_assoc (flat items ps) (Page page ∷ []) more) (sym (counted counts (Page page) more))
      (leads_on (state_of items ps counts) (state_of items within_page own) _ (item_tokens (Page page)) (items_tokens more) one others)

  page_end_claim : (more : List Item) → Claim more → Claim (PageEnd ∷ more)
  page_end_claim more claim items [] counts range pages shallow within = absurd (omega (arith, pages.0))
  page_end_claim more claim items (p ∷ ps) counts range pages shallow within =
      let gone : items_counts (PageEnd ∷ more) ≡ items_counts more = page_end_counted more in
      let some = subst (λ rest. IsWithin (counts plus rest)) gone within in
      let these = Page p.page ∷ p.items ++ PageEnd ∷ [] in
      let all =
      then_others more items ps these counts (state_of items (p ∷ ps) counts) (item_tokens PageEnd) claim (page_closes p.page p.items (top_of items ps) (under_of items ps) counts) range.1
      (subst (λ (n : ℕ). PagesMatch n more) (omega arith) pages.1) (subst (λ (n : ℕ). IsShallow n more) (omega arith) shallow) some
      in
      arrives (state_of items (p ∷ ps) counts) (item_tokens PageEnd ++ items_tokens more) (items_tokens (PageEnd ∷ more)) (flat items ps ++ these ++ more) (flat items (p ∷ ps) ++ PageEnd ∷ more)
      (counts plus items_counts more) (counts plus items_counts (PageEnd ∷ more))
      refl (around_end (flat items ps) (Page p.page ∷ p.items) PageEnd more) (ap (λ rest. counts plus rest) (sym gone)) all

  no_items_claim : Claim []
  no_items_claim items [] counts range pages shallow within =
      arrives (state_of items [] counts) [] [] items (items ++ []) counts (counts plus no_counts) refl (sym (append-nil items)) (sym (plus_none counts)) (leads_nowhere (state_of items [] counts))
  no_items_claim items (p ∷ ps) counts range pages shallow within = absurd (omega (arith, pages))

  pub items_lead : (more : List Item) → Claim more
  items_lead [] = no_items_claim
  items_lead (Page page ∷ PageEnd ∷ more) = empty_page_claim page more (items_lead more)
  items_lead (Page page ∷ more) = page_claim page more refl (items_lead more)
  items_lead (PageEnd ∷ more) = page_end_claim more (items_lead more)
  items_lead (item ∷ more) = node_claim item more tt (items_lead more)
