-- The tags of the canonical text: no reason applies to one whose name is known, whose attributes are those of
-- its element, and that occurs where it may and where there is room for it.
use Rattle.std.proofs.Common.{◌≡◌, ℕ, suc, ◌<◌, ◌≤◌, Bool, true, false, List, [], ◌∷◌, Some, None, length, get_or, refl, sym, ap, subst, ◌∙◌, arith, inl, inr}
use Rattle.std.specs.Prelude.{◌==◌, ◌&&◌, not, nat_le, nat_lt, encode_utf8}
use Rattle.std.specs.List.{AllByRecursion, list_all}
use Rattle.std.specs.Str.{encode_utf8_all}
use Rattle.std.proofs.lemmas.Bool.{and_from, lt-leb, le-leb, cases_lt}
use Rattle.std.proofs.lemmas.Bool.Decides.{nat_tests}
use Rattle.std.proofs.lemmas.List.Folds.{list_all-append}
use Rattle.std.proofs.lemmas.Str.{encode_ascii}
use Rattle.net_values.specs.declared.limits.TheConstants.{MAX_ARCS, MAX_ID_BYTES, MAX_OPEN_ELEMENTS, MAX_PAGES, MAX_PLACES, MAX_REFERENCES, MAX_TRANSITIONS}
use Rattle.net_values.specs.Characters.{IsIdCharacter, IsId}
use Rattle.pnml_grammar.specs.declared.element.ElementKind.{ElementKind}
use Rattle.pnml_grammar.specs.declared.element.ElementKind.TheVariants as elements
use Rattle.pnml_grammar.specs.declared.element.Context.{Context}
use Rattle.pnml_grammar.specs.declared.element.Context.TheVariants as contexts
use Rattle.pnml_grammar.specs.declared.token.Attribute.{Attribute}
use Rattle.pnml_grammar.specs.declared.token.Token.{Token}
use Rattle.pnml_grammar.specs.declared.token.Token.TheVariants as tokens
use Rattle.pnml_grammar.specs.Elements.{element_named, attribute_names, attribute_kinds, attribute_named, is_id, fits, has_needed, has_attributes, has_namespace, has_type, may_hold, context_of_kind, context_in}
use Rattle.pnml_grammar.specs.Contents.{Content, nothing, gives}
use Rattle.pnml_grammar.specs.Counts.{Counts, ◌plus◌, counts_of_kind, counts_if_any, tag_counts, IsWithin}
use Rattle.pnml_grammar.specs.OpenElements.{Frame, State}
use Rattle.pnml_grammar.specs.Reasons.{first_row, is_second, has_all_nets, is_pnml, is_number_text, count_rows, is_full, tag_rows, open_rows_in}
use Rattle.pnml_grammar.specs.Machine.{receive, open_element}
use Rattle.pnml_grammar.proofs.EscapeLaws.{high_bytes}
use Rattle.pnml_grammar.proofs.CanonTokens.{element_tokens, id_of, ref_of, source_of, target_of, type_of, namespace_of}
use Rattle.pnml_grammar.proofs.MachineRuns.{Leads, IsTaken, leads_element}

-- ---- ids

-- a byte of an id
abbrev is_id_byte : ℕ → Bool
is_id_byte byte = nat_lt 32 byte && not (byte == 127)

high_all : (bytes : List ℕ) → ((k : ℕ) → k < length bytes → 128 ≤ get_or bytes k 0) → list_all is_id_byte bytes ≡ true
high_all [] high = refl
high_all (b ∷ bs) high =
    let first : 128 ≤ b = high 0 (omega arith) in
    let one : is_id_byte b ≡ true = grind (arith, nat_tests) in
    and_from (is_id_byte b) (list_all is_id_byte bs) one (high_all bs (λ k below. high (suc k) (omega arith)))

id_character : (c : ℕ) → IsIdCharacter c → list_all is_id_byte (encode_utf8 c) ≡ true
id_character c is = elim (cases_lt c 128) [
  | inl small ↦
      let above = is.1 in
      let other = is.2 in
      let one : is_id_byte c ≡ true = grind (arith, nat_tests) in
      rw (encode_ascii c small, one) refl
  | inr high ↦ high_all (encode_utf8 c) (high_bytes c high)
]

id_bytes : (cs : List ℕ) → AllByRecursion IsIdCharacter cs → list_all is_id_byte (encode_utf8_all cs) ≡ true
id_bytes [] each = refl
id_bytes (c ∷ cs) each =
    list_all-append is_id_byte (encode_utf8 c) (encode_utf8_all cs)
    ∙ and_from (list_all is_id_byte (encode_utf8 c)) _ (id_character c each.0) (id_bytes cs each.1)

pub id_is : (id : List ℕ) → IsId id → is_id id ≡ true
unfolding is_id
id_is id is =
    and_from (nat_le 1 (length id) && nat_le (length id) MAX_ID_BYTES) (list_all is_id_byte id)
    (and_from (nat_le 1 (length id)) (nat_le (length id) MAX_ID_BYTES) (le-leb 1 (length id) is.nonempty) (le-leb (length id) MAX_ID_BYTES is.short))
    (ap (list_all is_id_byte) (sym is.characters.2) ∙ id_bytes is.characters.0 is.characters.1)

-- ---- attributes

-- the attributes of an element, whose ids are ids
pub record HasAttributes (element : ElementKind) (attributes : List Attribute) : Type 0 where
  pub namespace : has_namespace element attributes ≡ true
  pub type : has_type element attributes ≡ true
  pub fitting : has_attributes element attributes ≡ true

module _ (id : List ℕ) (is : IsId id) where
  pub page_attributes : HasAttributes elements.Page (id_of id ∷ [])
  unfolding has_namespace has_type has_attributes fits has_needed attribute_named attribute_names attribute_kinds
  page_attributes = record { namespace = refl; type = refl; fitting = rw (id_is id is) refl }

  pub place_attributes : HasAttributes elements.Place (id_of id ∷ [])
  unfolding has_namespace has_type has_attributes fits has_needed attribute_named attribute_names attribute_kinds
  place_attributes = record { namespace = refl; type = refl; fitting = rw (id_is id is) refl }

  pub transition_attributes : HasAttributes elements.Transition (id_of id ∷ [])
  unfolding has_namespace has_type has_attributes fits has_needed attribute_named attribute_names attribute_kinds
  transition_attributes = record { namespace = refl; type = refl; fitting = rw (id_is id is) refl }

  pub net_attributes : HasAttributes elements.Net (id_of id ∷ type_of ∷ [])
  unfolding has_namespace has_type has_attributes fits has_needed attribute_named attribute_names attribute_kinds
  net_attributes = record { namespace = refl; type = refl; fitting = rw (id_is id is) refl }

  pub ref_place_attributes : (target : List ℕ) → IsId target → HasAttributes elements.ReferencePlace (id_of id ∷ ref_of target ∷ [])
  unfolding has_namespace has_type has_attributes fits has_needed attribute_named attribute_names attribute_kinds
  ref_place_attributes target to = record { namespace = refl; type = refl; fitting = rw (id_is id is, id_is target to) refl }

  pub ref_transition_attributes : (target : List ℕ) → IsId target → HasAttributes elements.ReferenceTransition (id_of id ∷ ref_of target ∷ [])
  unfolding has_namespace has_type has_attributes fits has_needed attribute_named attribute_names attribute_kinds
  ref_transition_attributes target to = record { namespace = refl; type = refl; fitting = rw (id_is id is, id_is target to) refl }

  pub arc_attributes : (source target : List ℕ) → IsId source → IsId target → HasAttributes elements.Arc (id_of id ∷ source_of source ∷ target_of target ∷ [])
  unfolding has_namespace has_type has_attributes fits has_needed attribute_named attribute_names attribute_kinds
  arc_attributes source target from to = record { namespace = refl; type = refl; fitting = rw (id_is id is, id_is source from, id_is target to) refl }

pub pnml_attributes : HasAttributes elements.Pnml (namespace_of ∷ [])
unfolding has_namespace has_type has_attributes fits has_needed attribute_named attribute_names attribute_kinds
pnml_attributes = record { namespace = refl; type = refl; fitting = refl }

-- an element of a label
abbrev pub is_label : ElementKind → Bool
is_label elements.Name = true
is_label elements.InitialMarking = true
is_label elements.Inscription = true
is_label elements.Text = true
is_label _ = false

pub label_attributes : (element : ElementKind) → is_label element ≡ true → HasAttributes element []
unfolding has_namespace has_type has_attributes has_needed
label_attributes elements.Name is = record { namespace = refl; type = refl; fitting = refl }
label_attributes elements.InitialMarking is = record { namespace = refl; type = refl; fitting = refl }
label_attributes elements.Inscription is = record { namespace = refl; type = refl; fitting = refl }
label_attributes elements.Text is = record { namespace = refl; type = refl; fitting = refl }
label_attributes _ is = absurd cc

-- ---- tags

-- any context but a skipped part's
abbrev pub is_read : Context → Bool
is_read contexts.Skipped = false
is_read _ = true

-- a tag that may occur in the innermost open element
pub record IsFree (top : Frame) (under : List Frame) (counts : Counts) (name : List ℕ) (element : ElementKind) : Type 0 where
  pub read : is_read top.context ≡ true
  pub named : element_named name ≡ Some element
  pub held : may_hold top.context element ≡ true
  pub first : is_second top.context top.content element ≡ false
  pub room : length under < MAX_OPEN_ELEMENTS
  pub space : has_all_nets top.content element ≡ false
  pub counted : first_row (count_rows counts element) ≡ None

-- limits leave room for what is counted
pub counted_room : (element : ElementKind) (counts : Counts) → IsWithin (counts plus counts_of_kind element) → first_row (count_rows counts element) ≡ None
counted_room elements.Place counts within = rw (lt-leb MAX_PLACES counts.places (omega (arith, within.places))) refl
counted_room elements.Transition counts within = rw (lt-leb MAX_TRANSITIONS counts.transitions (omega (arith, within.transitions))) refl
counted_room elements.Arc counts within = rw (lt-leb MAX_ARCS counts.arcs (omega (arith, within.arcs))) refl
counted_room elements.ReferencePlace counts within = rw (lt-leb MAX_REFERENCES counts.references (omega (arith, within.references))) refl
counted_room elements.ReferenceTransition counts within = rw (lt-leb MAX_REFERENCES counts.references (omega (arith, within.references))) refl
counted_room elements.Page counts within = rw (lt-leb MAX_PAGES counts.pages (omega (arith, within.pages))) refl
counted_room _ counts within = refl

rows_none : (state : State) (empty : Bool) (attributes : List Attribute) (element : ElementKind) → has_namespace element attributes ≡ true → has_type element attributes ≡ true → has_attributes element attributes ≡ true
    → (empty && is_number_text state.top.context element) ≡ false → may_hold state.top.context element ≡ true → is_second state.top.context state.top.content element ≡ false → (empty && is_pnml element) ≡ false
    → is_full state ≡ false → has_all_nets state.top.content element ≡ false → first_row (count_rows state.counts element) ≡ None → first_row (tag_rows state empty attributes (Some element)) ≡ None
rows_none state empty attributes element e0 e1 e2 e3 e4 e5 e6 e7 e8 e9 = rw (e0, e1, e2, e3, e4, e5, e6, e7, e8) e9

not_full : (state : State) → length state.under < MAX_OPEN_ELEMENTS → is_full state ≡ false
unfolding is_full
not_full state room = lt-leb MAX_OPEN_ELEMENTS (length state.under) room

open_read : (context : Context) (state : State) (empty : Bool) (name : List ℕ) (attributes : List Attribute) → is_read context ≡ true
    → open_rows_in context state empty name attributes ≡ tag_rows state empty attributes (element_named name)
open_read contexts.Skipped state empty name attributes read = absurd cc
open_read _ state empty name attributes read = refl

module _ (top : Frame) (under : List Frame) (counts : Counts) (name : List ℕ) (attributes : List Attribute) (element : ElementKind)
    (free : IsFree top under counts name element) (has : HasAttributes element attributes) where
  abbrev here : State
  here = record { top = top; under = under; counts = counts }

  none_applies : (empty : Bool) → (empty && is_number_text top.context element) ≡ false → (empty && is_pnml element) ≡ false
      → first_row (open_rows_in top.context here empty name attributes) ≡ None
  none_applies empty text root =
      ap first_row (open_read top.context here empty name attributes free.read ∙ ap (tag_rows here empty attributes) free.named)
      ∙ rows_none here empty attributes element has.namespace has.type has.fitting text free.held free.first root (not_full here free.room) free.space free.counted

  pub start_taken : IsTaken here (tokens.Start name attributes)
  start_taken = none_applies false refl refl

  pub empty_taken : is_number_text top.context element ≡ false → is_pnml element ≡ false → IsTaken here (tokens.Empty name attributes)
  empty_taken text root = none_applies true text root

-- ---- whole elements

-- what an element of the kind opens
abbrev pub inside : Frame → List Frame → Counts → List ℕ → List Attribute → ElementKind → Content → State
inside top under counts name attributes element content = record {
  top = record { context = context_of_kind top.context element; name = name; attributes = attributes; content = content };
  under = top ∷ under;
  counts = counts plus counts_of_kind element;
}

context_read : (context : Context) (element : ElementKind) → is_read context ≡ true → context_in context (Some element) ≡ context_of_kind context element
context_read contexts.Skipped element read = absurd cc
context_read _ element read = refl

counts_read : (context : Context) (name : List ℕ) → is_read context ≡ true → tag_counts context name ≡ counts_if_any (element_named name)
counts_read contexts.Skipped name read = absurd cc
counts_read _ name read = refl

module _ (top : Frame) (under : List Frame) (counts : Counts) (name : List ℕ) (attributes : List Attribute) (element : ElementKind)
    (free : IsFree top under counts name element) (has : HasAttributes element attributes) where
  abbrev now : State
  now = record { top = top; under = under; counts = counts }

  pub opened_is : open_element now name attributes ≡ inside top under counts name attributes element nothing
  opened_is =
      let context : context_in top.context (element_named name) ≡ context_of_kind top.context element = ap (context_in top.context) free.named ∙ context_read top.context element free.read in
      let counted : tag_counts top.context name ≡ counts_of_kind element = counts_read top.context name free.read ∙ ap counts_if_any free.named in
      rw (context, counted) refl

  -- a child that may be an empty tag, by what its children lead to
  pub leads_child : (children : List Token) (content : Content) → (children ≡ [] → is_number_text top.context element ≡ false) → is_pnml element ≡ false
      → Leads (inside top under counts name attributes element nothing) children (inside top under counts name attributes element content)
      → IsTaken (inside top under counts name attributes element content) (tokens.End name)
      → Leads now (element_tokens name attributes children)
      (record { top = receive (gives (context_of_kind top.context element) attributes content) top; under = under; counts = counts plus counts_of_kind element })
  leads_child children content text root runs ends =
      leads_element now (inside top under counts name attributes element content) name attributes children
      (start_taken top under counts name attributes element free has)
      (λ none. empty_taken top under counts name attributes element free has (text none) root)
      (subst (λ state. Leads state children (inside top under counts name attributes element content)) (sym opened_is) runs)
      ends
