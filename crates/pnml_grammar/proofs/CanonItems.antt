-- The items of the canonical text: the tokens of one lead the open net or page to the same with the item
-- after those that it has.
use Rattle.std.proofs.Common.{◌≡◌, ℕ, ◌+◌, ◌<◌, ◌≤◌, Bool, true, false, cond, List, [], ◌∷◌, ◌++◌, Option, Some, None, length, refl, sym, subst, arith}
use Rattle.std.specs.Prelude.{◌==◌, ◌||◌, codes, unwrap_or}
use Rattle.std.proofs.lemmas.Bool.{eqb-true}
use Rattle.net_values.specs.declared.limits.TheConstants.{MAX_OPEN_ELEMENTS}
use Rattle.net_values.specs.declared.document.PageNode.{PageNode}
use Rattle.net_values.specs.declared.document.PlaceNode.{PlaceNode}
use Rattle.net_values.specs.declared.document.TransitionNode.{TransitionNode}
use Rattle.net_values.specs.declared.document.RefNode.{RefNode}
use Rattle.net_values.specs.declared.document.ArcNode.{ArcNode}
use Rattle.net_values.specs.declared.document.Item.{Item}
use Rattle.net_values.specs.declared.document.Item.TheVariants.{Page, PageEnd, Place, Transition, RefPlace, RefTransition, Arc}
use Rattle.pnml_grammar.specs.declared.element.ElementKind.{ElementKind}
use Rattle.pnml_grammar.specs.declared.element.ElementKind.TheVariants as elements
use Rattle.pnml_grammar.specs.declared.element.Context.{Context}
use Rattle.pnml_grammar.specs.declared.element.Context.TheVariants as contexts
use Rattle.pnml_grammar.specs.declared.token.Attribute.{Attribute}
use Rattle.pnml_grammar.specs.declared.token.Token.TheVariants as tokens
use Rattle.pnml_grammar.specs.Elements.{element_names, element_kinds, element_named, is_name, is_node_or_page, is_skipped, may_hold, context_of_kind}
use Rattle.pnml_grammar.specs.Contents.{gives, Content, nothing, one_item, first_value}
use Rattle.pnml_grammar.specs.Counts.{Counts, ◌plus◌, counts_of_kind, IsWithin}
use Rattle.pnml_grammar.specs.Valued.{IsNameIfAny, HasValuesInRange, name_height, item_height}
use Rattle.pnml_grammar.specs.OpenElements.{Frame, State}
use Rattle.pnml_grammar.specs.Reasons.{is_second, has_all_nets, is_number_text, is_pnml}
use Rattle.pnml_grammar.specs.Machine.{receive}
use Rattle.pnml_grammar.proofs.CanonTokens.{element_tokens, id_of, ref_of, source_of, target_of, name_tokens, marking_tokens, weight_tokens, item_tokens}
use Rattle.pnml_grammar.proofs.MachineRuns.{IsTaken, Leads, leads_on, leads_token}
use Rattle.pnml_grammar.proofs.CanonTags.{is_read, IsFree, HasAttributes, counted_room, inside, start_taken, opened_is, leads_child, page_attributes, place_attributes, transition_attributes, ref_place_attributes, ref_transition_attributes, arc_attributes}
use Rattle.pnml_grammar.proofs.CanonLabels.{named, names_of, frame, numbered, name_leads, marking_leads, weight_leads}

-- the kind of an item's element
abbrev pub kind_of : Item → ElementKind
kind_of (Page page) = elements.Page
kind_of PageEnd = elements.Page
kind_of (Place place) = elements.Place
kind_of (Transition transition) = elements.Transition
kind_of (RefPlace node) = elements.ReferencePlace
kind_of (RefTransition node) = elements.ReferenceTransition
kind_of (Arc arc) = elements.Arc

-- an item that is no start or end of a page
abbrev pub IsNode : Item → Type 0
IsNode (Page page) = ⊥
IsNode PageEnd = ⊥
IsNode _ = Unit

-- what holds items
abbrev pub IsHolder : Context → Type 0
IsHolder contexts.Net = Unit
IsHolder contexts.Page = Unit
IsHolder _ = ⊥

-- the element of an item may occur in a holder, and any number of them
node_held : (element : ElementKind) → is_node_or_page element ≡ true → (is_name element || is_node_or_page element || is_skipped element) ≡ true
node_held elements.Page is = refl
node_held elements.Place is = refl
node_held elements.Transition is = refl
node_held elements.ReferencePlace is = refl
node_held elements.ReferenceTransition is = refl
node_held elements.Arc is = refl
node_held _ is = absurd cc

node_first : (element : ElementKind) (context : Context) (content : Content) → is_node_or_page element ≡ true → is_second context content element ≡ false
node_first elements.Page context content is = refl
node_first elements.Place context content is = refl
node_first elements.Transition context content is = refl
node_first elements.ReferencePlace context content is = refl
node_first elements.ReferenceTransition context content is = refl
node_first elements.Arc context content is = refl
node_first _ context content is = absurd cc

node_space : (element : ElementKind) (content : Content) → is_node_or_page element ≡ true → has_all_nets content element ≡ false
node_space elements.Net content is = absurd cc
node_space _ content is = refl

holder_reads : (context : Context) → IsHolder context → is_read context ≡ true
holder_reads contexts.Net holds = refl
holder_reads contexts.Page holds = refl
holder_reads _ holds = absurd holds

holder_held : (context : Context) (element : ElementKind) → IsHolder context → is_node_or_page element ≡ true → may_hold context element ≡ true
holder_held contexts.Net element holds item = node_held element item
holder_held contexts.Page element holds item = node_held element item
holder_held _ element holds item = absurd holds

holder_no_text : (context : Context) (element : ElementKind) → IsHolder context → is_number_text context element ≡ false
holder_no_text contexts.Net element holds = refl
holder_no_text contexts.Page element holds = refl
holder_no_text _ element holds = absurd holds

-- ---- what is read of an item is the item

pub first_named : (name : Option (List ℕ)) → first_value (names_of name) ≡ name
first_named None = refl
first_named (Some name) = refl

numbered_name : (left_out : Bool) (name : Option (List ℕ)) (number : ℕ) → first_value (numbered left_out name number).names ≡ name
numbered_name true name number = first_named name
numbered_name false None number = refl
numbered_name false (Some name) number = refl

-- a number is left out where it is the one that is meant without it
numbered_number : (left_out : Bool) (name : Option (List ℕ)) (number without : ℕ) → left_out ≡ (number == without)
    → unwrap_or (first_value (numbered left_out name number).numbers) without ≡ number
numbered_number true name number without e = sym (eqb-true number without (sym e))
numbered_number false name number without e = refl

place_is : (place : PlaceNode) (zero : Bool) → zero ≡ (place.initial == 0)
    → ◌≡◌ {A = PlaceNode} (record { id = place.id; name = first_value (numbered zero place.name place.initial).names; initial = unwrap_or (first_value (numbered zero place.name place.initial).numbers) 0 }) place
place_is place zero e =
    let name = numbered_name zero place.name place.initial in
    let initial = numbered_number zero place.name place.initial 0 e in
    λ i. record { id = place.id; name = name i; initial = initial i }

arc_is : (arc : ArcNode) (one : Bool) → one ≡ (arc.weight == 1)
    → ◌≡◌ {A = ArcNode} (record { id = arc.id; name = first_value (numbered one arc.name arc.weight).names; source = arc.source; target = arc.target; weight = unwrap_or (first_value (numbered one arc.name arc.weight).numbers) 1 }) arc
arc_is arc one e =
    let name = numbered_name one arc.name arc.weight in
    let weight = numbered_number one arc.name arc.weight 1 e in
    λ i. record { id = arc.id; name = name i; source = arc.source; target = arc.target; weight = weight i }

-- how many elements are open
some_height : (left_out : Bool) (height : ℕ) → 1 ≤ cond left_out (1 + height) 3
some_height true height = omega arith
some_height false height = omega arith

name_fits : (left_out : Bool) (name : Option (List ℕ)) → 1 + name_height name ≤ cond left_out (1 + name_height name) 3
name_fits true name = omega arith
name_fits false None = omega arith
name_fits false (Some name) = omega arith

number_fits : (left_out : Bool) (height : ℕ) → left_out ≡ false → cond left_out (1 + height) 3 ≡ 3
number_fits left_out height e = rw e refl

module _ (top : Frame) (under : List Frame) (counts : Counts) (holds : IsHolder top.context) where
  pub item_free : (name : List ℕ) (element : ElementKind) → is_node_or_page element ≡ true → element_named name ≡ Some element → length under < MAX_OPEN_ELEMENTS → IsWithin (counts plus counts_of_kind element)
      → IsFree top under counts name element
  item_free name element item is room within = record {
    read = holder_reads top.context holds;
    named = is;
    held = holder_held top.context element holds item;
    first = node_first element top.context top.content item;
    room = room;
    space = node_space element top.content item;
    counted = counted_room element counts within;
  }

  abbrev now : State
  now = record { top = top; under = under; counts = counts }

  -- the same with an item after the others
  abbrev with_item : Item → State
  with_item item = record { top = receive (one_item item) top; under = under; counts = counts plus counts_of_kind (kind_of item) }

  abbrev Reads : Item → Type 0
  Reads item = HasValuesInRange item → length under + item_height item ≤ MAX_OPEN_ELEMENTS → IsWithin (counts plus counts_of_kind (kind_of item)) → Leads now (item_tokens item) (with_item item)

  -- an element that has a name and no other children
  named_leads : (own : List ℕ) (attributes : List Attribute) (element : ElementKind) (name : Option (List ℕ)) → is_node_or_page element ≡ true → element_named own ≡ Some element → HasAttributes element attributes
      → is_read (context_of_kind top.context element) ≡ true → may_hold (context_of_kind top.context element) elements.Name ≡ true → is_pnml element ≡ false
      → IsNameIfAny name → length under + (1 + name_height name) ≤ MAX_OPEN_ELEMENTS → IsWithin (counts plus counts_of_kind element)
      → IsTaken (inside top under counts own attributes element (named name)) (tokens.End own)
      → Leads now (element_tokens own attributes (name_tokens name))
      (record { top = receive (gives (context_of_kind top.context element) attributes (named name)) top; under = under; counts = counts plus counts_of_kind element })
  named_leads own attributes element name item is has reads held root valued room within ends =
      leads_child top under counts own attributes element (item_free own element item is (omega arith) within) has (name_tokens name) (named name) (λ e. holder_no_text top.context element holds) root
      (name_leads (context_of_kind top.context element) own attributes (top ∷ under) (counts plus counts_of_kind element) name reads held valued (omega arith))
      ends

  transition_reads : (transition : TransitionNode) → Reads (Transition transition)
  unfolding element_named element_names element_kinds
  transition_reads transition is room within =
      subst (λ name. Leads now (item_tokens (Transition transition)) (with_item (Transition record { id = transition.id; name = name }))) (first_named transition.name)
      (named_leads (codes "transition") (id_of transition.id ∷ []) elements.Transition transition.name refl refl (transition_attributes transition.id is.0) refl refl refl is.1 room within refl)

  ref_place_reads : (node : RefNode) → Reads (RefPlace node)
  unfolding element_named element_names element_kinds
  ref_place_reads node is room within =
      subst (λ name. Leads now (item_tokens (RefPlace node)) (with_item (RefPlace record { id = node.id; name = name; target = node.target }))) (first_named node.name)
      (named_leads (codes "referencePlace") (id_of node.id ∷ ref_of node.target ∷ []) elements.ReferencePlace node.name refl refl (ref_place_attributes node.id is.0 node.target is.2) refl refl refl is.1 room within refl)

  ref_transition_reads : (node : RefNode) → Reads (RefTransition node)
  unfolding element_named element_names element_kinds
  ref_transition_reads node is room within =
      subst (λ name. Leads now (item_tokens (RefTransition node)) (with_item (RefTransition record { id = node.id; name = name; target = node.target }))) (first_named node.name)
      (named_leads (codes "referenceTransition") (id_of node.id ∷ ref_of node.target ∷ []) elements.ReferenceTransition node.name refl refl (ref_transition_attributes node.id is.0 node.target is.2) refl refl refl is.1 room within refl)

  place_reads : (place : PlaceNode) → Reads (Place place)
  unfolding element_named element_names element_kinds
  place_reads place is room within =
      let own = codes "place" in
      let attributes = id_of place.id ∷ [] in
      let more = counts plus counts_of_kind elements.Place in
      let outer = top ∷ under in
      let zero = place.initial == 0 in
      subst (λ item. Leads now (item_tokens (Place place)) (with_item (Place item))) (place_is place zero refl)
      (leads_child top under counts own attributes elements.Place (item_free own elements.Place refl refl (omega (arith, some_height zero (name_height place.name))) within) (place_attributes place.id is.0)
      (name_tokens place.name ++ marking_tokens place.initial) (numbered zero place.name place.initial) (λ e. holder_no_text top.context elements.Place holds) refl
      (leads_on (record { top = frame contexts.Place own attributes nothing; under = outer; counts = more }) (record { top = frame contexts.Place own attributes (named place.name); under = outer; counts = more })
      (record { top = frame contexts.Place own attributes (numbered zero place.name place.initial); under = outer; counts = more }) (name_tokens place.name) (marking_tokens place.initial)
      (name_leads contexts.Place own attributes outer more place.name refl refl is.1 (omega (arith, name_fits zero place.name)))
      (marking_leads own attributes outer more place.name place.initial is.2 (λ positive. omega (arith, number_fits zero (name_height place.name) positive))))
      refl)

  arc_reads : (arc : ArcNode) → Reads (Arc arc)
  unfolding element_named element_names element_kinds
  arc_reads arc is room within =
      let own = codes "arc" in
      let attributes = id_of arc.id ∷ source_of arc.source ∷ target_of arc.target ∷ [] in
      let more = counts plus counts_of_kind elements.Arc in
      let outer = top ∷ under in
      let one = arc.weight == 1 in
      subst (λ item. Leads now (item_tokens (Arc arc)) (with_item (Arc item))) (arc_is arc one refl)
      (leads_child top under counts own attributes elements.Arc (item_free own elements.Arc refl refl (omega (arith, some_height one (name_height arc.name))) within)
      (arc_attributes arc.id is.0 arc.source arc.target is.2 is.3)
      (name_tokens arc.name ++ weight_tokens arc.weight) (numbered one arc.name arc.weight) (λ e. holder_no_text top.context elements.Arc holds) refl
      (leads_on (record { top = frame contexts.Arc own attributes nothing; under = outer; counts = more }) (record { top = frame contexts.Arc own attributes (named arc.name); under = outer; counts = more })
      (record { top = frame contexts.Arc own attributes (numbered one arc.name arc.weight); under = outer; counts = more }) (name_tokens arc.name) (weight_tokens arc.weight)
      (name_leads contexts.Arc own attributes outer more arc.name refl refl is.1 (omega (arith, name_fits one arc.name)))
      (weight_leads own attributes outer more arc.name arc.weight is.4 is.5 (λ other. omega (arith, number_fits one (name_height arc.name) other))))
      refl)

  -- ---- pages

  page_is : element_named (codes "page") ≡ Some elements.Page
  unfolding element_named element_names element_kinds
  page_is = refl

  page_free : (page : PageNode) → HasValuesInRange (Page page) → length under + item_height (Page page) ≤ MAX_OPEN_ELEMENTS → IsWithin (counts plus counts_of_kind elements.Page)
      → IsFree top under counts (codes "page") elements.Page
  page_free page is room within = item_free (codes "page") elements.Page refl page_is (omega arith) within

  -- a page, open, with its name
  abbrev pub page_frame : PageNode → List Item → Frame
  page_frame page items = frame contexts.Page (codes "page") (id_of page.id ∷ []) (record (named page.name) { items = items })

  abbrev in_page : PageNode → State
  in_page page = record { top = page_frame page []; under = top ∷ under; counts = counts plus counts_of_kind elements.Page }

  page_named : (page : PageNode) → HasValuesInRange (Page page) → length under + item_height (Page page) ≤ MAX_OPEN_ELEMENTS
      → Leads (inside top under counts (codes "page") (id_of page.id ∷ []) elements.Page nothing) (name_tokens page.name) (in_page page)
  page_named page is room = name_leads contexts.Page (codes "page") (id_of page.id ∷ []) (top ∷ under) (counts plus counts_of_kind elements.Page) page.name refl refl is.1 (omega arith)

  pub page_opens : (page : PageNode) → HasValuesInRange (Page page) → length under + item_height (Page page) ≤ MAX_OPEN_ELEMENTS → IsWithin (counts plus counts_of_kind elements.Page)
      → Leads now (item_tokens (Page page)) (in_page page)
  page_opens page is room within =
      let free = page_free page is room within in
      let has = page_attributes page.id is.0 in
      leads_on now (inside top under counts (codes "page") (id_of page.id ∷ []) elements.Page nothing) (in_page page) (tokens.Start (codes "page") (id_of page.id ∷ []) ∷ []) (name_tokens page.name)
      (subst (λ state. Leads now (tokens.Start (codes "page") (id_of page.id ∷ []) ∷ []) state) (opened_is top under counts (codes "page") (id_of page.id ∷ []) elements.Page free has)
      (leads_token now (tokens.Start (codes "page") (id_of page.id ∷ [])) (start_taken top under counts (codes "page") (id_of page.id ∷ []) elements.Page free has)))
      (page_named page is room)

  -- a page without items
  pub empty_page_reads : (page : PageNode) → HasValuesInRange (Page page) → length under + item_height (Page page) ≤ MAX_OPEN_ELEMENTS → IsWithin (counts plus counts_of_kind elements.Page)
      → Leads now (element_tokens (codes "page") (id_of page.id ∷ []) (name_tokens page.name))
      (record { top = receive (record nothing { items = Page page ∷ PageEnd ∷ [] }) top; under = under; counts = counts plus counts_of_kind elements.Page })
  empty_page_reads page is room within =
      let attributes = id_of page.id ∷ [] in
      subst (λ name. Leads now (element_tokens (codes "page") attributes (name_tokens page.name))
      (record { top = receive (record nothing { items = Page record { id = page.id; name = name } ∷ PageEnd ∷ [] }) top; under = under; counts = counts plus counts_of_kind elements.Page })) (first_named page.name)
      (named_leads (codes "page") attributes elements.Page page.name refl page_is (page_attributes page.id is.0) refl refl refl is.1 room within refl)

  pub node_reads : (item : Item) → IsNode item → Reads item
  node_reads (Page page) node = absurd node
  node_reads PageEnd node = absurd node
  node_reads (Place place) node = place_reads place
  node_reads (Transition transition) node = transition_reads transition
  node_reads (RefPlace reference) node = ref_place_reads reference
  node_reads (RefTransition reference) node = ref_transition_reads reference
  node_reads (Arc arc) node = arc_reads arc

-- the end of a page, in what it is in
pub page_closes : (page : PageNode) (items : List Item) (outer : Frame) (under : List Frame) (counts : Counts)
    → Leads (record { top = frame contexts.Page (codes "page") (id_of page.id ∷ []) (record (named page.name) { items = items }); under = outer ∷ under; counts = counts }) (tokens.End (codes "page") ∷ [])
    (record { top = receive (record nothing { items = Page page ∷ items ++ PageEnd ∷ [] }) outer; under = under; counts = counts })
page_closes page items outer under counts =
    subst (λ name. Leads (record { top = frame contexts.Page (codes "page") (id_of page.id ∷ []) (record (named page.name) { items = items }); under = outer ∷ under; counts = counts }) (tokens.End (codes "page") ∷ [])
    (record { top = receive (record nothing { items = Page record { id = page.id; name = name } ∷ items ++ PageEnd ∷ [] }) outer; under = under; counts = counts })) (first_named page.name)
    (leads_token (record { top = frame contexts.Page (codes "page") (id_of page.id ∷ []) (record (named page.name) { items = items }); under = outer ∷ under; counts = counts }) (tokens.End (codes "page")) refl)
