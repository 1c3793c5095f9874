-- Ids, names, markings and weights that a tree gives are in range: an id by the test of its tag, a name by the
-- limit on its text's bytes, and a number by the test of its digits.
use Rattle.std.proofs.Common.{◌≡◌, ℕ, ◌<◌, ◌≤◌, ◌^◌, true, List, [], ◌∷◌, Option, Some, None, refl, inl, inr, arith}
use Rattle.std.specs.Prelude.{◌&&◌, nat_le, nat_lt, length, unwrap_or, option_to_list, IfSome}
use Rattle.std.specs.List.{AllByRecursion}
use Rattle.std.proofs.lemmas.Bool.{cases_Bool, and_parts, leb-true, ltb-true}
use Rattle.net_values.specs.Characters.{IsLegalText, IsId, IsNameValue}
use Rattle.net_values.specs.declared.limits.TheConstants.{MAX_NETS}
use Rattle.net_values.specs.declared.document.Document.{Document}
use Rattle.net_values.specs.declared.document.NetTree.{NetTree}
use Rattle.net_values.specs.declared.document.Item.{Item}
use Rattle.net_values.specs.declared.document.Item.TheVariants.{PageEnd}
use Rattle.pnml_grammar.specs.declared.element.Context.{Context}
use Rattle.pnml_grammar.specs.declared.element.Context.TheVariants as contexts
use Rattle.pnml_grammar.specs.declared.element.ElementKind.{ElementKind}
use Rattle.pnml_grammar.specs.declared.element.ElementKind.TheVariants as elements
use Rattle.pnml_grammar.specs.declared.token.Attribute.{Attribute}
use Rattle.pnml_grammar.specs.Elements.{context_of_text, context_of_kind, may_hold}
use Rattle.pnml_grammar.specs.Numerals.{numeral, number_if_any, number_in}
use Rattle.pnml_grammar.specs.Contents.{Content, nothing, ◌then◌, first, first_value, gives, characters_content, cdata_content}
use Rattle.pnml_grammar.specs.Documents.{IsFilled}
use Rattle.pnml_grammar.specs.Valued.{IsNameIfAny, HasValuesInRange}
use Rattle.pnml_grammar.specs.LegalTexts.{HaveLegalValues}
use Rattle.pnml_grammar.proofs.LegalLaws.{legal_nothing, legal_join}
use Rattle.pnml_grammar.proofs.EachLaws.{each_append}
use Rattle.pnml_grammar.proofs.ValuedTrees.{IsKept, IsRead, IsRightTag}
use Rattle.pnml_grammar.proofs.ValuedIds.{ids_are_in_range}

-- the numbers that are given to a context: markings, or weights
abbrev IsMarking : ℕ → Type 0
IsMarking n = n < 2 ^ 64

abbrev IsWeight : ℕ → Type 0
IsWeight n = (1 ≤ n) × (n < 2 ^ 64)

abbrev IsNumberOf : Context → ℕ → Type 0
IsNumberOf contexts.Place n = IsMarking n
IsNumberOf contexts.InitialMarking n = IsMarking n
IsNumberOf contexts.MarkingText n = IsMarking n
IsNumberOf contexts.Arc n = IsWeight n
IsNumberOf contexts.Inscription n = IsWeight n
IsNumberOf contexts.WeightText n = IsWeight n
IsNumberOf _ n = Unit

abbrev IsNumberIfAny : Context → Option ℕ → Type 0
IsNumberIfAny context number = IfSome number (IsNumberOf context)

pub record IsNetInRange (net : NetTree) : Type 0 where
  pub id : IsId net.id
  pub name : IsNameIfAny net.name
  pub items : AllByRecursion HasValuesInRange net.items

pub record IsDocumentInRange (document : Document) : Type 0 where
  pub some : 1 ≤ length document.nets
  pub few : length document.nets ≤ MAX_NETS
  pub nets : AllByRecursion IsNetInRange document.nets

pub record IsContentInRange (context : Context) (c : Content) : Type 0 where
  pub documents : AllByRecursion IsDocumentInRange c.documents
  pub nets : AllByRecursion IsNetInRange c.nets
  pub items : AllByRecursion HasValuesInRange c.items
  pub names : AllByRecursion IsNameIfAny c.names
  pub numbers : AllByRecursion (IsNumberIfAny context) c.numbers
  pub texts : AllByRecursion IsNameValue c.texts
  pub bytes : IsLegalText c.bytes
  pub numerals : AllByRecursion (IsNumberOf context) c.numerals

nothing_in_range : (context : Context) → IsContentInRange context nothing
nothing_in_range context = record { documents = tt; nets = tt; items = tt; names = tt; numbers = tt; texts = tt; bytes = legal_nothing; numerals = tt }

joined_in_range : (context : Context) (a b : Content) → IsContentInRange context a → IsContentInRange context b → IsContentInRange context (a then b)
joined_in_range context a b one other = record {
  documents = each_append IsDocumentInRange a.documents b.documents one.documents other.documents;
  nets = each_append IsNetInRange a.nets b.nets one.nets other.nets;
  items = each_append HasValuesInRange a.items b.items one.items other.items;
  names = each_append IsNameIfAny a.names b.names one.names other.names;
  numbers = each_append (IsNumberIfAny context) a.numbers b.numbers one.numbers other.numbers;
  texts = each_append IsNameValue a.texts b.texts one.texts other.texts;
  bytes = legal_join a.bytes b.bytes one.bytes other.bytes;
  numerals = each_append (IsNumberOf context) a.numerals b.numerals one.numerals other.numerals;
}

-- ---- content of one sort

document_in_range : (context : Context) (document : Document) → IsDocumentInRange document → IsContentInRange context (record nothing { documents = document ∷ [] })
document_in_range context document is =
    record { documents = (is, tt); nets = tt; items = tt; names = tt; numbers = tt; texts = tt; bytes = legal_nothing; numerals = tt }

nets_in_range : (context : Context) (nets : List NetTree) → AllByRecursion IsNetInRange nets → IsContentInRange context (record nothing { nets = nets })
nets_in_range context nets each = record { documents = tt; nets = each; items = tt; names = tt; numbers = tt; texts = tt; bytes = legal_nothing; numerals = tt }

items_in_range : (context : Context) (items : List Item) → AllByRecursion HasValuesInRange items → IsContentInRange context (record nothing { items = items })
items_in_range context items each = record { documents = tt; nets = tt; items = each; names = tt; numbers = tt; texts = tt; bytes = legal_nothing; numerals = tt }

name_in_range : (context : Context) (name : Option (List ℕ)) → IsNameIfAny name → IsContentInRange context (record nothing { names = name ∷ [] })
name_in_range context name is = record { documents = tt; nets = tt; items = tt; names = (is, tt); numbers = tt; texts = tt; bytes = legal_nothing; numerals = tt }

number_in_range : (context : Context) (number : Option ℕ) → IsNumberIfAny context number → IsContentInRange context (record nothing { numbers = number ∷ [] })
number_in_range context number is = record { documents = tt; nets = tt; items = tt; names = tt; numbers = (is, tt); texts = tt; bytes = legal_nothing; numerals = tt }

text_in_range : (context : Context) (text : List ℕ) → IsNameValue text → IsContentInRange context (record nothing { texts = text ∷ [] })
text_in_range context text is = record { documents = tt; nets = tt; items = tt; names = tt; numbers = tt; texts = (is, tt); bytes = legal_nothing; numerals = tt }

bytes_in_range : (context : Context) (bytes : List ℕ) → IsLegalText bytes → IsContentInRange context (record nothing { bytes = bytes })
bytes_in_range context bytes is = record { documents = tt; nets = tt; items = tt; names = tt; numbers = tt; texts = tt; bytes = is; numerals = tt }

numerals_in_range : (context : Context) (numerals : List ℕ) → AllByRecursion (IsNumberOf context) numerals → IsContentInRange context (record nothing { numerals = numerals })
numerals_in_range context numerals each = record { documents = tt; nets = tt; items = tt; names = tt; numbers = tt; texts = tt; bytes = legal_nothing; numerals = each }

-- ---- characters

marking_in_range : (value : List ℕ) → AllByRecursion IsMarking (option_to_list (number_in contexts.MarkingText value))
unfolding number_in
marking_in_range value = go (numeral value)
  where
    go : (number : Option ℕ) → AllByRecursion IsMarking (option_to_list (number_if_any contexts.MarkingText number))
    go None = tt
    go (Some n) = elim (cases_Bool (nat_lt n (2 ^ 64))) [ inl low ↦ rw low (ltb-true n (2 ^ 64) low, tt) | inr high ↦ rw high tt ]

weight_in_range : (value : List ℕ) → AllByRecursion IsWeight (option_to_list (number_in contexts.WeightText value))
unfolding number_in
weight_in_range value = go (numeral value)
  where
    go : (number : Option ℕ) → AllByRecursion IsWeight (option_to_list (number_if_any contexts.WeightText number))
    go None = tt
    go (Some n) =
        elim (cases_Bool (nat_le 1 n && nat_lt n (2 ^ 64))) [
          | inl within ↦ let p = and_parts (nat_le 1 n) (nat_lt n (2 ^ 64)) within in rw within ((leb-true 1 n p.0, ltb-true n (2 ^ 64) p.1), tt)
          | inr without ↦ rw without tt
        ]

characters_in_range : (context : Context) (value : List ℕ) → IsLegalText value → IsContentInRange context (characters_content context value)
characters_in_range contexts.NameText value legal = bytes_in_range contexts.NameText value legal
characters_in_range contexts.MarkingText value legal = numerals_in_range contexts.MarkingText _ (marking_in_range value)
characters_in_range contexts.WeightText value legal = numerals_in_range contexts.WeightText _ (weight_in_range value)
characters_in_range context value legal = nothing_in_range context

cdata_in_range : (context : Context) (value : List ℕ) → IsLegalText value → IsContentInRange context (cdata_content context value)
cdata_in_range contexts.NameText value legal = bytes_in_range contexts.NameText value legal
cdata_in_range context value legal = nothing_in_range context

-- ---- elements

first_name : (names : List (Option (List ℕ))) → AllByRecursion IsNameIfAny names → IsNameIfAny (first_value names)
first_name [] each = tt
first_name (name ∷ names) each = each.0

first_text : (texts : List (List ℕ)) → AllByRecursion IsNameValue texts → IsNameIfAny (first texts)
first_text [] each = tt
first_text (text ∷ texts) each = each.0

first_numeral : (context : Context) (numerals : List ℕ) → AllByRecursion (IsNumberOf context) numerals → IsNumberIfAny context (first numerals)
first_numeral context [] each = tt
first_numeral context (n ∷ numerals) each = each.0

number_or : (context : Context) (other : ℕ) → IsNumberOf context other → (numbers : List (Option ℕ)) → AllByRecursion (IsNumberIfAny context) numbers → IsNumberOf context (unwrap_or (first_value numbers) other)
number_or context other is [] each = is
number_or context other is (None ∷ numbers) each = is
number_or context other is (Some n ∷ numbers) each = each.0

-- markings are in places, and inscriptions on arcs
holds_marking : (context : Context) → IsRead context → may_hold context elements.InitialMarking ≡ true → context ≡ contexts.Place
holds_marking contexts.Place read e = refl
holds_marking contexts.Skipped read e = absurd read
holds_marking context read e = absurd cc

holds_inscription : (context : Context) → IsRead context → may_hold context elements.Inscription ≡ true → context ≡ contexts.Arc
holds_inscription contexts.Arc read e = refl
holds_inscription contexts.Skipped read e = absurd read
holds_inscription context read e = absurd cc

text_element : (context : Context) (attributes : List Attribute) (c : Content) → IsFilled (context_of_text context) c → IsContentInRange (context_of_text context) c
    → IsContentInRange context (gives (context_of_text context) attributes c)
text_element contexts.Name attributes c filled each = text_in_range contexts.Name c.bytes record { characters = each.bytes; short = filled.few.bytes }
text_element contexts.InitialMarking attributes c filled each = numerals_in_range contexts.InitialMarking c.numerals each.numerals
text_element contexts.Inscription attributes c filled each = numerals_in_range contexts.Inscription c.numerals each.numerals
text_element context attributes c filled each = nothing_in_range context

element_in_range : (context : Context) (kind : ElementKind) (attributes : List Attribute) (c : Content) → IsRightTag context kind attributes → HaveLegalValues attributes
    → IsFilled (context_of_kind context kind) c → IsContentInRange (context_of_kind context kind) c → IsContentInRange context (gives (context_of_kind context kind) attributes c)
element_in_range context elements.Pnml attributes c tag legal filled each =
    document_in_range context _ record { some = leb-true 1 (length c.nets) filled.complete; few = filled.few.nets; nets = each.nets }
element_in_range context elements.Net attributes c tag legal filled each =
    let ids = ids_are_in_range elements.Net attributes refl tag.attributes_are legal in
    nets_in_range context _ (record { id = ids.id refl; name = first_name c.names each.names; items = each.items }, tt)
element_in_range context elements.Page attributes c tag legal filled each =
    let ids = ids_are_in_range elements.Page attributes refl tag.attributes_are legal in
    items_in_range context _ ((ids.id refl, first_name c.names each.names), each_append HasValuesInRange c.items (PageEnd ∷ []) each.items (tt, tt))
element_in_range context elements.Place attributes c tag legal filled each =
    let ids = ids_are_in_range elements.Place attributes refl tag.attributes_are legal in
    items_in_range context _ ((ids.id refl, first_name c.names each.names, number_or contexts.Place 0 (omega arith) c.numbers each.numbers), tt)
element_in_range context elements.Transition attributes c tag legal filled each =
    let ids = ids_are_in_range elements.Transition attributes refl tag.attributes_are legal in
    items_in_range context _ ((ids.id refl, first_name c.names each.names), tt)
element_in_range context elements.Arc attributes c tag legal filled each =
    let ids = ids_are_in_range elements.Arc attributes refl tag.attributes_are legal in
    let weight = number_or contexts.Arc 1 (omega arith, omega arith) c.numbers each.numbers in
    items_in_range context _ ((ids.id refl, first_name c.names each.names, ids.source refl, ids.target refl, weight.0, weight.1), tt)
element_in_range context elements.ReferencePlace attributes c tag legal filled each =
    let ids = ids_are_in_range elements.ReferencePlace attributes refl tag.attributes_are legal in
    items_in_range context _ ((ids.id refl, first_name c.names each.names, ids.ref refl), tt)
element_in_range context elements.ReferenceTransition attributes c tag legal filled each =
    let ids = ids_are_in_range elements.ReferenceTransition attributes refl tag.attributes_are legal in
    items_in_range context _ ((ids.id refl, first_name c.names each.names, ids.ref refl), tt)
element_in_range context elements.Name attributes c tag legal filled each = name_in_range context (first c.texts) (first_text c.texts each.texts)
element_in_range context elements.InitialMarking attributes c tag legal filled each =
    rw (holds_marking context tag.read_is tag.place_is) (number_in_range contexts.Place (first c.numerals) (first_numeral contexts.InitialMarking c.numerals each.numerals))
element_in_range context elements.Inscription attributes c tag legal filled each =
    rw (holds_inscription context tag.read_is tag.place_is) (number_in_range contexts.Arc (first c.numerals) (first_numeral contexts.Inscription c.numerals each.numerals))
element_in_range context elements.Text attributes c tag legal filled each = text_element context attributes c filled each
element_in_range context elements.Graphics attributes c tag legal filled each = nothing_in_range context
element_in_range context elements.Toolspecific attributes c tag legal filled each = nothing_in_range context

-- what a tree gives is in range
pub ranges_are_kept : IsKept (λ context h counts c. IsContentInRange context c)
ranges_are_kept = record {
  none_is = nothing_in_range;
  skipped_is = λ h counts. nothing_in_range contexts.Skipped;
  joined_is = λ context h i one other a b. joined_in_range context a b;
  characters_are = characters_in_range;
  cdata_is = cdata_in_range;
  element_is = λ context kind attributes h counts c. element_in_range context kind attributes c;
}
