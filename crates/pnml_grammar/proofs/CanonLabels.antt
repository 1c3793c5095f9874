-- Labels of the canonical text: a name gives its value, and a number its number. Labels count nothing.
use Rattle.std.proofs.Common.{◌≡◌, ℕ, ◌+◌, ◌<◌, ◌≤◌, ◌^◌, Bool, true, false, cond, List, [], ◌∷◌, Option, Some, None, length, refl, sym, ap, subst, ◌∙◌, arith}
use Rattle.std.specs.Prelude.{◌==◌, ◌&&◌, not, nat_lt, codes, decimal, is_none}
use Rattle.std.proofs.lemmas.Bool.{lt-leb}
use Rattle.std.proofs.lemmas.Fmt.{decimal_nonempty}
use Rattle.net_values.specs.declared.limits.TheConstants.{MAX_NAME_BYTES, MAX_OPEN_ELEMENTS}
use Rattle.pnml_grammar.specs.declared.element.ElementKind.{ElementKind}
use Rattle.pnml_grammar.specs.declared.element.ElementKind.TheVariants as elements
use Rattle.pnml_grammar.specs.declared.element.Context.{Context}
use Rattle.pnml_grammar.specs.declared.element.Context.TheVariants as contexts
use Rattle.pnml_grammar.specs.declared.token.Attribute.{Attribute}
use Rattle.pnml_grammar.specs.declared.token.Token.{Token}
use Rattle.pnml_grammar.specs.declared.token.Token.TheVariants as tokens
use Rattle.pnml_grammar.specs.Elements.{element_names, element_kinds, element_named, may_hold, context_of_kind}
use Rattle.pnml_grammar.specs.Contents.{Content, nothing, ◌then◌, gives, characters_content}
use Rattle.pnml_grammar.specs.Counts.{Counts, no_counts, ◌plus◌, counts_of_kind}
use Rattle.pnml_grammar.specs.Numerals.{is_white, number_in}
use Rattle.pnml_grammar.specs.Valued.{IsNameIfAny, name_height}
use Rattle.pnml_grammar.specs.OpenElements.{Frame, State}
use Rattle.pnml_grammar.specs.Reasons.{is_number_text, is_second, is_pnml}
use Rattle.pnml_grammar.specs.Machine.{receive}
use Rattle.pnml_grammar.proofs.NumeralLaws.{decimal_marking, decimal_weight}
use Rattle.pnml_grammar.proofs.CanonTokens.{value_tokens, element_tokens, label_tokens, name_tokens, marking_tokens, weight_tokens}
use Rattle.pnml_grammar.proofs.MachineRuns.{Leads, leads_nowhere, leads_token, IsTaken}
use Rattle.pnml_grammar.proofs.CanonTags.{is_label, label_attributes, is_read, IsFree, inside, leads_child}

pub counts_are : (a b c d e a' b' c' d' e' : ℕ) → a ≡ a' → b ≡ b' → c ≡ c' → d ≡ d' → e ≡ e'
    → ◌≡◌ {A = Counts} (record { places = a; transitions = b; arcs = c; references = d; pages = e }) (record { places = a'; transitions = b'; arcs = c'; references = d'; pages = e' })
counts_are a b c d e a' b' c' d' e' p q r s t = λ i. record { places = p i; transitions = q i; arcs = r i; references = s i; pages = t i }

pub plus_none : (counts : Counts) → counts plus no_counts ≡ counts
plus_none counts = counts_are _ _ _ _ _ _ _ _ _ _ (omega arith) (omega arith) (omega arith) (omega arith) (omega arith)

pub plus_assoc : (a b c : Counts) → (a plus b) plus c ≡ a plus (b plus c)
plus_assoc a b c = counts_are _ _ _ _ _ _ _ _ _ _ (omega arith) (omega arith) (omega arith) (omega arith) (omega arith)

-- ---- any label

label_no_root : (element : ElementKind) → is_label element ≡ true → is_pnml element ≡ false
label_no_root elements.Pnml is = absurd cc
label_no_root _ is = refl

element_some : (name : List ℕ) (attributes : List Attribute) (children : List Token) → element_tokens name attributes children ≡ [] → ⊥
element_some name attributes [] e = absurd cc
element_some name attributes (t ∷ ts) e = absurd cc

module _ (top : Frame) (under : List Frame) (counts : Counts) (name : List ℕ) (element : ElementKind) where
  -- the label, open, with this content
  abbrev pub label_frame : Content → Frame
  label_frame content = record { context = context_of_kind top.context element; name = name; attributes = []; content = content }

  abbrev pub label_state : Content → State
  label_state content = record { top = label_frame content; under = top ∷ under; counts = counts }

  -- its text, open, with this content
  abbrev pub text_state : Content → State
  text_state content = inside (label_frame nothing) (top ∷ under) counts (codes "text") [] elements.Text content

  abbrev text_gives : Content → Content
  text_gives content = gives (context_of_kind (context_of_kind top.context element) elements.Text) [] content

  pub leads_label : (value : List ℕ) (content : Content) → is_label element ≡ true → IsFree top under counts name element → counts_of_kind element ≡ no_counts
      → IsFree (label_frame nothing) (top ∷ under) counts (codes "text") elements.Text
      → (value_tokens value ≡ [] → is_number_text (context_of_kind top.context element) elements.Text ≡ false)
      → Leads (text_state nothing) (value_tokens value) (text_state content)
      → IsTaken (text_state content) (tokens.End (codes "text"))
      → IsTaken (label_state (nothing then text_gives content)) (tokens.End name)
      → Leads (record { top = top; under = under; counts = counts }) (label_tokens name value)
      (record { top = receive (gives (context_of_kind top.context element) [] (nothing then text_gives content)) top; under = under; counts = counts })
  leads_label value content is free none text_free some runs text_ends ends =
      let text = element_tokens (codes "text") [] (value_tokens value) in
      let given = nothing then text_gives content in
      let same : counts plus counts_of_kind element ≡ counts = ap (λ more. counts plus more) none ∙ plus_none counts in
      let child : Leads (label_state nothing) text (record { top = label_frame given; under = top ∷ under; counts = counts plus no_counts }) =
      leads_child (label_frame nothing) (top ∷ under) counts (codes "text") [] elements.Text text_free (label_attributes elements.Text refl) (value_tokens value) content some refl runs text_ends
      in
      let read : Leads (label_state nothing) text (label_state given) =
      subst (λ c. Leads (label_state nothing) text (record { top = label_frame given; under = top ∷ under; counts = c })) (plus_none counts) child
      in
      let whole =
      leads_child top under counts name [] element free (label_attributes element is) text given (λ e. absurd (element_some (codes "text") [] (value_tokens value) e)) (label_no_root element is)
      (subst (λ c. Leads (record { top = label_frame nothing; under = top ∷ under; counts = c }) text (record { top = label_frame given; under = top ∷ under; counts = c })) (sym same) read)
      (subst (λ c. IsTaken (record { top = label_frame given; under = top ∷ under; counts = c }) (tokens.End name)) (sym same) ends)
      in
      subst (λ c. Leads (record { top = top; under = under; counts = counts }) (label_tokens name value)
      (record { top = receive (gives (context_of_kind top.context element) [] given) top; under = under; counts = c })) same whole

-- ---- names

abbrev pub names_of : Option (List ℕ) → List (Option (List ℕ))
names_of None = []
names_of (Some name) = Some name ∷ []

-- what a name gives
abbrev pub named : Option (List ℕ) → Content
named name = record nothing { names = names_of name }

-- an open element with this content
abbrev pub frame : Context → List ℕ → List Attribute → Content → Frame
frame context name attributes content = record { context = context; name = name; attributes = attributes; content = content }

not_long : (value : List ℕ) → length value ≤ MAX_NAME_BYTES → nat_lt MAX_NAME_BYTES (length {A = ℕ} [] + length value) ≡ false
not_long value short = lt-leb 65537 (length {A = ℕ} [] + length value) (omega arith)

name_value_leads : (own : List ℕ) (attributes : List Attribute) (under : List Frame) (counts : Counts) (value : List ℕ) → length value ≤ MAX_NAME_BYTES
    → Leads (record { top = frame contexts.NameText own attributes nothing; under = under; counts = counts }) (value_tokens value)
    (record { top = frame contexts.NameText own attributes (record nothing { bytes = value }); under = under; counts = counts })
name_value_leads own attributes under counts [] short = leads_nowhere _
name_value_leads own attributes under counts (b ∷ bs) short =
    leads_token (record { top = frame contexts.NameText own attributes nothing; under = under; counts = counts }) (tokens.Characters (b ∷ bs)) (rw (not_long (b ∷ bs) short) refl)

-- an element without children has no second child
second_text : (context : Context) → is_second context nothing elements.Text ≡ false
second_text contexts.Name = refl
second_text _ = refl

second_name : (context : Context) → is_second context nothing elements.Name ≡ false
second_name context = refl

text_free : (context : Context) (own : List ℕ) (under : List Frame) (counts : Counts) → is_read context ≡ true → may_hold context elements.Text ≡ true → length under < MAX_OPEN_ELEMENTS
    → IsFree (frame context own [] nothing) under counts (codes "text") elements.Text
unfolding element_named element_names element_kinds
text_free context own under counts read held room =
    record { read = read; named = refl; held = held; first = second_text context; room = room; space = refl; counted = refl }

name_free : (context : Context) (own : List ℕ) (attributes : List Attribute) (under : List Frame) (counts : Counts) → is_read context ≡ true → may_hold context elements.Name ≡ true → length under < MAX_OPEN_ELEMENTS
    → IsFree (frame context own attributes nothing) under counts (codes "name") elements.Name
unfolding element_named element_names element_kinds
name_free context own attributes under counts read held room =
    record { read = read; named = refl; held = held; first = second_name context; room = room; space = refl; counted = refl }

-- a name, the first child of its element
pub name_leads : (context : Context) (own : List ℕ) (attributes : List Attribute) (under : List Frame) (counts : Counts) (name : Option (List ℕ))
    → is_read context ≡ true → may_hold context elements.Name ≡ true → IsNameIfAny name → length under + name_height name ≤ MAX_OPEN_ELEMENTS
    → Leads (record { top = frame context own attributes nothing; under = under; counts = counts }) (name_tokens name)
    (record { top = frame context own attributes (named name); under = under; counts = counts })
name_leads context own attributes under counts None read held is room = leads_nowhere _
name_leads context own attributes under counts (Some name) read held is room =
    leads_label (frame context own attributes nothing) under counts (codes "name") elements.Name name (record nothing { bytes = name }) refl
    (name_free context own attributes under counts read held (omega arith)) refl
    (text_free contexts.Name (codes "name") (frame context own attributes nothing ∷ under) counts refl refl (omega arith))
    (λ e. refl)
    (name_value_leads (codes "text") [] _ _ name is.short)
    refl refl

-- ---- numbers

-- a number's text, by the number that it is read as
number_value_leads : (context : Context) (own : List ℕ) (under : List Frame) (counts : Counts) (number : ℕ) (value : List ℕ) → 1 ≤ length value
    → IsTaken (record { top = frame context own [] nothing; under = under; counts = counts }) (tokens.Characters value)
    → nothing then characters_content context value ≡ record nothing { numerals = number ∷ [] }
    → Leads (record { top = frame context own [] nothing; under = under; counts = counts }) (value_tokens value)
    (record { top = frame context own [] (record nothing { numerals = number ∷ [] }); under = under; counts = counts })
number_value_leads context own under counts number [] some taken gives = absurd (omega arith)
number_value_leads context own under counts number (b ∷ bs) some taken gives =
    subst (λ content. Leads (record { top = frame context own [] nothing; under = under; counts = counts }) (tokens.Characters (b ∷ bs) ∷ []) (record { top = frame context own [] content; under = under; counts = counts })) gives
    (leads_token (record { top = frame context own [] nothing; under = under; counts = counts }) (tokens.Characters (b ∷ bs)) taken)

-- characters that are a number are no white space or a number: no reason applies
number_taken : (white : Bool) (read : Option ℕ) (number : ℕ) → read ≡ Some number → (not white && is_none read) ≡ false
number_taken true read number e = refl
number_taken false read number e = rw e refl

not_twice : (white : Bool) → (not white && false) ≡ false
not_twice true = refl
not_twice false = refl

marking_taken : (own : List ℕ) (under : List Frame) (counts : Counts) (number : ℕ) (value : List ℕ) → number_in contexts.MarkingText value ≡ Some number
    → IsTaken (record { top = frame contexts.MarkingText own [] nothing; under = under; counts = counts }) (tokens.Characters value)
marking_taken own under counts number value e = rw (number_taken (is_white value) (number_in contexts.MarkingText value) number e, not_twice (is_white value)) refl

weight_taken : (own : List ℕ) (under : List Frame) (counts : Counts) (number : ℕ) (value : List ℕ) → number_in contexts.WeightText value ≡ Some number
    → IsTaken (record { top = frame contexts.WeightText own [] nothing; under = under; counts = counts }) (tokens.Characters value)
weight_taken own under counts number value e = rw (number_taken (is_white value) (number_in contexts.WeightText value) number e, not_twice (is_white value)) refl

value_some : (value : List ℕ) → 1 ≤ length value → value_tokens value ≡ [] → ⊥
value_some [] some e = omega arith
value_some (b ∷ bs) some e = absurd cc

-- what a number gives
abbrev pub with_number : Option (List ℕ) → ℕ → Content
with_number name number = named name then record nothing { numbers = Some number ∷ [] }

marking_free : (own : List ℕ) (attributes : List Attribute) (name : Option (List ℕ)) (under : List Frame) (counts : Counts) → length under < MAX_OPEN_ELEMENTS
    → IsFree (frame contexts.Place own attributes (named name)) under counts (codes "initialMarking") elements.InitialMarking
unfolding element_named element_names element_kinds
marking_free own attributes name under counts room = record { read = refl; named = refl; held = refl; first = refl; room = room; space = refl; counted = refl }

weight_free : (own : List ℕ) (attributes : List Attribute) (name : Option (List ℕ)) (under : List Frame) (counts : Counts) → length under < MAX_OPEN_ELEMENTS
    → IsFree (frame contexts.Arc own attributes (named name)) under counts (codes "inscription") elements.Inscription
unfolding element_named element_names element_kinds
weight_free own attributes name under counts room = record { read = refl; named = refl; held = refl; first = refl; room = room; space = refl; counted = refl }

-- a marking and a weight, after the name
abbrev pub numbered : Bool → Option (List ℕ) → ℕ → Content
numbered true name number = named name
numbered false name number = with_number name number

marking_label : (own : List ℕ) (attributes : List Attribute) (under : List Frame) (counts : Counts) (name : Option (List ℕ)) (number : ℕ) → number < 2 ^ 64 → length under + 2 ≤ MAX_OPEN_ELEMENTS
    → Leads (record { top = frame contexts.Place own attributes (named name); under = under; counts = counts }) (label_tokens (codes "initialMarking") (decimal number))
    (record { top = frame contexts.Place own attributes (with_number name number); under = under; counts = counts })
marking_label own attributes under counts name number small room =
    let top = frame contexts.Place own attributes (named name) in
    let some = decimal_nonempty number small in
    leads_label top under counts (codes "initialMarking") elements.InitialMarking (decimal number) (record nothing { numerals = number ∷ [] }) refl
    (marking_free own attributes name under counts (omega arith)) refl
    (text_free contexts.InitialMarking (codes "initialMarking") (top ∷ under) counts refl refl (omega arith))
    (λ e. absurd (value_some (decimal number) some e))
    (number_value_leads contexts.MarkingText (codes "text") _ _ number (decimal number) some
    (marking_taken (codes "text") (frame contexts.InitialMarking (codes "initialMarking") [] nothing ∷ top ∷ under) (counts plus no_counts) number (decimal number) (decimal_marking number small)) (rw (decimal_marking number small) refl))
    refl refl

weight_label : (own : List ℕ) (attributes : List Attribute) (under : List Frame) (counts : Counts) (name : Option (List ℕ)) (number : ℕ) → 1 ≤ number → number < 2 ^ 64 → length under + 2 ≤ MAX_OPEN_ELEMENTS
    → Leads (record { top = frame contexts.Arc own attributes (named name); under = under; counts = counts }) (label_tokens (codes "inscription") (decimal number))
    (record { top = frame contexts.Arc own attributes (with_number name number); under = under; counts = counts })
weight_label own attributes under counts name number positive small room =
    let top = frame contexts.Arc own attributes (named name) in
    let some = decimal_nonempty number small in
    leads_label top under counts (codes "inscription") elements.Inscription (decimal number) (record nothing { numerals = number ∷ [] }) refl
    (weight_free own attributes name under counts (omega arith)) refl
    (text_free contexts.Inscription (codes "inscription") (top ∷ under) counts refl refl (omega arith))
    (λ e. absurd (value_some (decimal number) some e))
    (number_value_leads contexts.WeightText (codes "text") _ _ number (decimal number) some
    (weight_taken (codes "text") (frame contexts.Inscription (codes "inscription") [] nothing ∷ top ∷ under) (counts plus no_counts) number (decimal number) (decimal_weight number positive small)) (rw (decimal_weight number positive small) refl))
    refl refl

-- a label that is left out, or not
unless : (left_out : Bool) (context : Context) (own : List ℕ) (attributes : List Attribute) (under : List Frame) (counts : Counts) (name : Option (List ℕ)) (number : ℕ) (list : List Token)
    → (left_out ≡ false → Leads (record { top = frame context own attributes (named name); under = under; counts = counts }) list (record { top = frame context own attributes (with_number name number); under = under; counts = counts }))
    → Leads (record { top = frame context own attributes (named name); under = under; counts = counts }) (cond left_out [] list)
    (record { top = frame context own attributes (numbered left_out name number); under = under; counts = counts })
unless true context own attributes under counts name number list leads = leads_nowhere _
unless false context own attributes under counts name number list leads = leads refl

pub marking_leads : (own : List ℕ) (attributes : List Attribute) (under : List Frame) (counts : Counts) (name : Option (List ℕ)) (number : ℕ) → number < 2 ^ 64 → ((number == 0) ≡ false → length under + 2 ≤ MAX_OPEN_ELEMENTS)
    → Leads (record { top = frame contexts.Place own attributes (named name); under = under; counts = counts }) (marking_tokens number)
    (record { top = frame contexts.Place own attributes (numbered (number == 0) name number); under = under; counts = counts })
marking_leads own attributes under counts name number small room =
    unless (number == 0) contexts.Place own attributes under counts name number _ (λ positive. marking_label own attributes under counts name number small (room positive))

pub weight_leads : (own : List ℕ) (attributes : List Attribute) (under : List Frame) (counts : Counts) (name : Option (List ℕ)) (number : ℕ) → 1 ≤ number → number < 2 ^ 64
    → ((number == 1) ≡ false → length under + 2 ≤ MAX_OPEN_ELEMENTS)
    → Leads (record { top = frame contexts.Arc own attributes (named name); under = under; counts = counts }) (weight_tokens number)
    (record { top = frame contexts.Arc own attributes (numbered (number == 1) name number); under = under; counts = counts })
weight_leads own attributes under counts name number positive small room =
    unless (number == 1) contexts.Arc own attributes under counts name number _ (λ other. weight_label own attributes under counts name number positive small (room other))
