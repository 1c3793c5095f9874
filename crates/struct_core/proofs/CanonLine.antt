-- The canonical text of a valued document is one line: no tag, number or written value has a line feed, so that the
-- only one is its last byte, and what follows it begins the next line.
use Rattle.std.proofs.Common.{◌≡◌, ℕ, suc, ◌+◌, ◌^◌, ◌<◌, List, [], ◌∷◌, ◌++◌, refl, sym, ap, ◌∙◌, arith, inl, inr}
use Rattle.std.specs.Prelude.{Bool, true, not, ◌==◌, Option, Some, None, codes, decimal}
use Rattle.std.specs.List.{AllByRecursion, list_all}
use Rattle.std.proofs.lemmas.Bool.{and_from, and_parts, cases_Bool}
use Rattle.std.proofs.lemmas.Bool.Decides.{nat_tests}
use Rattle.std.proofs.lemmas.List.Folds.{list_all-append}
use Rattle.net_values.specs.declared.document.Document.{Document}
use Rattle.net_values.specs.declared.document.Item.{Item}
use Rattle.net_values.specs.declared.document.Item.TheVariants.{Page, PageEnd, Place, Transition, RefPlace, RefTransition, Arc}
use Rattle.net_values.specs.declared.document.NetTree.{NetTree}
use Rattle.certificates.proofs.DecimalTexts.{IsDigit, decimal_digits}
use Rattle.pnml_grammar.specs.Canon.{escaped, attribute, start_tag, end_tag, empty_tag, element, label, name_text, marking_text, weight_text, id_attribute, item_text, items_text, namespace, net_type, net_text, nets_text, declaration, canon}
use Rattle.pnml_grammar.specs.Characters.{Each}
use Rattle.pnml_grammar.specs.Valued.{HasValuesInRange, IsValuedNet, Valued}
use Rattle.pnml_grammar.proofs.EscapeLaws.{is_clean, escaped_clean}
use Rattle.struct_core.specs.Inputs.{line_length, first_line, after_first_line}

-- ---- bytes without a line feed

abbrev is_plain : ℕ → Bool
is_plain byte = not (byte == 10)

abbrev IsPlain : List ℕ → Type 0
IsPlain bytes = list_all is_plain bytes ≡ true

both : (xs ys : List ℕ) → IsPlain xs → IsPlain ys → IsPlain (xs ++ ys)
both xs ys one other = list_all-append is_plain xs ys ∙ and_from (list_all is_plain xs) (list_all is_plain ys) one other

clean_plain : (byte : ℕ) → is_clean byte ≡ true → is_plain byte ≡ true
clean_plain byte clean = grind (arith, nat_tests)

clean_bytes : (bytes : List ℕ) → Each is_clean bytes → IsPlain bytes
clean_bytes [] each = refl
clean_bytes (b ∷ bs) each = and_from (is_plain b) (list_all is_plain bs) (clean_plain b each.0) (clean_bytes bs each.1)

digit_plain : (byte : ℕ) → IsDigit byte → is_plain byte ≡ true
digit_plain byte digit = (let low = digit.0 in grind (arith, nat_tests))

digits_plain : (bytes : List ℕ) → AllByRecursion IsDigit bytes → IsPlain bytes
digits_plain [] each = refl
digits_plain (b ∷ bs) each = and_from (is_plain b) (list_all is_plain bs) (digit_plain b each.0) (digits_plain bs each.1)

-- ---- the parts of a canonical text

value_plain : (value : List ℕ) → IsPlain (escaped value)
value_plain value = clean_bytes (escaped value) (escaped_clean value)

number_plain : (n : ℕ) → n < 2 ^ 64 → IsPlain (decimal n)
number_plain n fits = digits_plain (decimal n) (decimal_digits n (omega (arith, fits)))

attribute_plain : (name value : List ℕ) → IsPlain name → IsPlain (attribute name value)
unfolding attribute
attribute_plain name value named =
    let named_is : IsPlain (codes " " ++ name ++ codes "=") = both (codes " " ++ name) (codes "=") (both (codes " ") name refl named) refl in
    both (codes " " ++ name ++ codes "=" ++ 34 ∷ escaped value) (34 ∷ []) (both (codes " " ++ name ++ codes "=") (34 ∷ escaped value) named_is (value_plain value)) refl

start_plain : (name attributes : List ℕ) → IsPlain name → IsPlain attributes → IsPlain (start_tag name attributes)
unfolding start_tag
start_plain name attributes named has =
    both (codes "<" ++ name ++ attributes) (codes ">") (both (codes "<" ++ name) attributes (both (codes "<") name refl named) has) refl

end_plain : (name : List ℕ) → IsPlain name → IsPlain (end_tag name)
unfolding end_tag
end_plain name named = both (codes "</" ++ name) (codes ">") (both (codes "</") name refl named) refl

empty_plain : (name attributes : List ℕ) → IsPlain name → IsPlain attributes → IsPlain (empty_tag name attributes)
unfolding empty_tag
empty_plain name attributes named has =
    both (codes "<" ++ name ++ attributes) (codes "/>") (both (codes "<" ++ name) attributes (both (codes "<") name refl named) has) refl

element_plain : (name attributes content : List ℕ) → IsPlain name → IsPlain attributes → IsPlain content → IsPlain (element name attributes content)
element_plain name attributes [] named has inner = empty_plain name attributes named has
element_plain name attributes (b ∷ bs) named has inner =
    both (start_tag name attributes ++ b ∷ bs) (end_tag name) (both (start_tag name attributes) (b ∷ bs) (start_plain name attributes named has) inner) (end_plain name named)

label_plain : (name value : List ℕ) → IsPlain name → IsPlain value → IsPlain (label name value)
label_plain name value named inner =
    element_plain name [] (element (codes "text") [] value) named refl (element_plain (codes "text") [] value refl refl inner)

name_plain : (name : Option (List ℕ)) → IsPlain (name_text name)
name_plain None = refl
name_plain (Some name) = label_plain (codes "name") (escaped name) refl (value_plain name)

marking_plain : (tokens : ℕ) → tokens < 2 ^ 64 → IsPlain (marking_text tokens)
unfolding marking_text
marking_plain tokens fits = elim (cases_Bool (tokens == 0)) [
  | inl none ↦ rw none refl
  | inr some ↦ rw some (label_plain (codes "initialMarking") (decimal tokens) refl (number_plain tokens fits))
]

weight_plain : (weight : ℕ) → weight < 2 ^ 64 → IsPlain (weight_text weight)
unfolding weight_text
weight_plain weight fits = elim (cases_Bool (weight == 1)) [
  | inl one ↦ rw one refl
  | inr other ↦ rw other (label_plain (codes "inscription") (decimal weight) refl (number_plain weight fits))
]

id_plain : (id : List ℕ) → IsPlain (id_attribute id)
id_plain id = attribute_plain (codes "id") id refl

-- an id and one more attribute
one_id : (id name other : List ℕ) → IsPlain name → IsPlain (id_attribute id ++ attribute name other)
one_id id name other named = both (id_attribute id) (attribute name other) (id_plain id) (attribute_plain name other named)

item_plain : (item : Item) → HasValuesInRange item → IsPlain (item_text item)
unfolding item_text
item_plain (Page page) fits =
    both (start_tag (codes "page") (id_attribute page.id)) (name_text page.name) (start_plain (codes "page") (id_attribute page.id) refl (id_plain page.id)) (name_plain page.name)
item_plain PageEnd fits = end_plain (codes "page") refl
item_plain (Place place) fits =
    element_plain (codes "place") (id_attribute place.id) (name_text place.name ++ marking_text place.initial) refl (id_plain place.id)
    (both (name_text place.name) (marking_text place.initial) (name_plain place.name) (marking_plain place.initial fits.2))
item_plain (Transition transition) fits =
    element_plain (codes "transition") (id_attribute transition.id) (name_text transition.name) refl (id_plain transition.id) (name_plain transition.name)
item_plain (RefPlace node) fits =
    element_plain (codes "referencePlace") (id_attribute node.id ++ attribute (codes "ref") node.target) (name_text node.name) refl
    (one_id node.id (codes "ref") node.target refl) (name_plain node.name)
item_plain (RefTransition node) fits =
    element_plain (codes "referenceTransition") (id_attribute node.id ++ attribute (codes "ref") node.target) (name_text node.name) refl
    (one_id node.id (codes "ref") node.target refl) (name_plain node.name)
item_plain (Arc arc) fits =
    element_plain (codes "arc") (id_attribute arc.id ++ attribute (codes "source") arc.source ++ attribute (codes "target") arc.target)
    (name_text arc.name ++ weight_text arc.weight) refl
    (both (id_attribute arc.id ++ attribute (codes "source") arc.source) (attribute (codes "target") arc.target) (one_id arc.id (codes "source") arc.source refl)
    (attribute_plain (codes "target") arc.target refl))
    (both (name_text arc.name) (weight_text arc.weight) (name_plain arc.name) (weight_plain arc.weight fits.5))

items_plain : (items : List Item) → AllByRecursion HasValuesInRange items → IsPlain (items_text items)
items_plain [] fits = refl
items_plain (Page page ∷ PageEnd ∷ items) fits =
    both (element (codes "page") (id_attribute page.id) (name_text page.name)) (items_text items)
    (element_plain (codes "page") (id_attribute page.id) (name_text page.name) refl (id_plain page.id) (name_plain page.name)) (items_plain items fits.1.1)
items_plain (item ∷ items) fits = both (item_text item) (items_text items) (item_plain item fits.0) (items_plain items fits.1)

net_plain : (net : NetTree) → AllByRecursion HasValuesInRange net.items → IsPlain (net_text net)
unfolding net_text
net_plain net fits =
    element_plain (codes "net") (id_attribute net.id ++ attribute (codes "type") net_type) (name_text net.name ++ items_text net.items) refl
    (one_id net.id (codes "type") net_type refl) (both (name_text net.name) (items_text net.items) (name_plain net.name) (items_plain net.items fits))

nets_plain : (nets : List NetTree) → AllByRecursion IsValuedNet nets → IsPlain (nets_text nets)
nets_plain [] valued = refl
nets_plain (net ∷ nets) valued = both (net_text net) (nets_text nets) (net_plain net valued.0.items) (nets_plain nets valued.1)

declaration_plain : IsPlain declaration
unfolding declaration
declaration_plain = refl

-- ---- the whole text

-- bytes without a line feed, and one after them
abbrev IsOneLine : List ℕ → Type 0
IsOneLine bytes = (front : List ℕ) × IsPlain front × (bytes ≡ front ++ 10 ∷ [])

canon_line : (document : Document) → Valued document → IsOneLine (canon document)
unfolding canon
canon_line document valued =
    let root = start_tag (codes "pnml") (attribute (codes "xmlns") namespace) in
    let close = end_tag (codes "pnml") in
    let begun : IsPlain (declaration ++ root) =
    both declaration root declaration_plain (start_plain (codes "pnml") (attribute (codes "xmlns") namespace) refl (attribute_plain (codes "xmlns") namespace refl)) in
    let front : IsPlain (declaration ++ root ++ nets_text document.nets) = both (declaration ++ root) (nets_text document.nets) begun (nets_plain document.nets valued.nets) in
    (declaration ++ root ++ nets_text document.nets ++ close, both (declaration ++ root ++ nets_text document.nets) close front (end_plain (codes "pnml") refl), refl)

one_more : (n : ℕ) → 1 + n + 1 ≡ suc (n + 1)
one_more n = omega arith

-- such bytes are the first line of what begins with them
front_cut : (front rest : List ℕ) → IsPlain front → first_line ((front ++ 10 ∷ []) ++ rest) ≡ front ++ 10 ∷ []
front_cut [] rest plain = refl
front_cut (b ∷ front) rest plain =
    let parts = and_parts (is_plain b) (list_all is_plain front) plain in
    rw parts.0 (rw (one_more (line_length ((front ++ 10 ∷ []) ++ rest))) (ap (λ (t : List ℕ). b ∷ t) (front_cut front rest parts.1)))

rest_cut : (front rest : List ℕ) → IsPlain front → after_first_line ((front ++ 10 ∷ []) ++ rest) ≡ rest
rest_cut [] rest plain = refl
rest_cut (b ∷ front) rest plain =
    let parts = and_parts (is_plain b) (list_all is_plain front) plain in
    rw parts.0 (rw (one_more (line_length ((front ++ 10 ∷ []) ++ rest))) (rest_cut front rest parts.1))

pub canon_first : (document : Document) (rest : List ℕ) → Valued document → first_line (canon document ++ rest) ≡ canon document
canon_first document rest valued =
    let line = canon_line document valued in
    ap (λ (t : List ℕ). first_line (t ++ rest)) line.2 ∙ front_cut line.0 rest line.1 ∙ sym line.2

pub canon_rest : (document : Document) (rest : List ℕ) → Valued document → after_first_line (canon document ++ rest) ≡ rest
canon_rest document rest valued =
    let line = canon_line document valued in ap (λ (t : List ℕ). after_first_line (t ++ rest)) line.2 ∙ rest_cut line.0 rest line.1
