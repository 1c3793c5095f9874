-- What an element may give: one document, name, number or text to the element around it, and none after another,
-- and one of a limited number of nets. Whether it may is a test on the tag, and tells whether there are few in the end.
-- By cases on what the element is and where it occurs.
use Rattle.std.proofs.Common.{◌≡◌, ℕ, ◌+◌, ◌≤◌, refl, sym, subst, List, [], ◌∷◌, length, Option, Some, None, Bool, true, false, ◌||◌, IsTrue, nat_le, arith, true≢false}
use Rattle.std.proofs.lemmas.Bool.{and_parts, or_parts, or_from, leb-true, leb-false, le-leb, lt-leb}
use Rattle.net_values.specs.declared.limits.TheConstants.{MAX_NETS}
use Rattle.pnml_grammar.specs.declared.element.ElementKind.{ElementKind}
use Rattle.pnml_grammar.specs.declared.element.ElementKind.TheVariants as elements
use Rattle.pnml_grammar.specs.declared.element.Context.{Context}
use Rattle.pnml_grammar.specs.declared.element.Context.TheVariants as contexts
use Rattle.pnml_grammar.specs.declared.token.Attribute.{Attribute}
use Rattle.pnml_grammar.specs.Elements.{element_named, context_in, context_if_any, context_of_kind, may_hold, may_occur, may_occur_as}
use Rattle.pnml_grammar.specs.Contents.{Content, nothing, ◌then◌, gives}
use Rattle.pnml_grammar.specs.Documents.{HasFew, is_complete}
use Rattle.pnml_grammar.specs.Reasons.{has_some, is_second, has_all_nets}
use Rattle.pnml_grammar.proofs.ContentLaws.{then_nothing, few_parts, few_from}

-- ---- lists of one at most

pub has_some_is : {A : Type 0} (xs : List A) → has_some xs ≡ nat_le 1 (length xs)
has_some_is [] = refl
has_some_is (x ∷ xs) = sym (le-leb 1 (length (x ∷ xs)) (omega arith))

pub has_none : {A : Type 0} (xs : List A) (n : ℕ) → length xs + n ≤ 1 → 1 ≤ n → has_some xs ≡ false
has_none [] n few some = refl
has_none (x ∷ xs) n few some = absurd (omega arith)

pub none_long : {A : Type 0} (xs : List A) → has_some xs ≡ false → length xs ≡ 0
none_long [] e = refl
none_long (x ∷ xs) e = absurd (true≢false e)

-- ---- an element in another

abbrev pub is_inside : Context → Bool
is_inside contexts.Skipped = false
is_inside _ = true

-- the element may not follow what the children before have given; in skipped parts every one may
abbrev pub second_of : Context → Content → Option ElementKind → Bool
second_of context content None = false
second_of context content (Some element) = is_second context content element || has_all_nets content element

abbrev pub second_in : Context → Content → Option ElementKind → Bool
second_in contexts.Skipped content element = false
second_in context content element = second_of context content element

second_none : (element : ElementKind) (context : Context) (content inner : Content) (attributes : List Attribute) → is_inside context ≡ true → IsTrue (may_hold context element)
    → HasFew (content then gives (context_of_kind context element) attributes inner) → IsTrue (is_complete (context_of_kind context element) inner) → is_second context content element ≡ false
second_none elements.Pnml context content inner attributes inside holds few complete =
    has_none content.documents 1 (few_parts content (gives contexts.Pnml attributes inner) few).documents (omega arith)
second_none elements.Name context content inner attributes inside holds few complete =
    has_none content.names 1 (few_parts content (gives contexts.Name attributes inner) few).names (omega arith)
second_none elements.InitialMarking context content inner attributes inside holds few complete =
    has_none content.numbers 1 (few_parts content (gives contexts.InitialMarking attributes inner) few).numbers (omega arith)
second_none elements.Inscription context content inner attributes inside holds few complete =
    has_none content.numbers 1 (few_parts content (gives contexts.Inscription attributes inner) few).numbers (omega arith)
second_none elements.Text contexts.Name content inner attributes inside holds few complete =
    has_none content.texts 1 (few_parts content (gives contexts.NameText attributes inner) few).texts (omega arith)
second_none elements.Text contexts.InitialMarking content inner attributes inside holds few complete =
    has_none content.numerals (length inner.numerals) (few_parts content (gives contexts.MarkingText attributes inner) few).numerals (leb-true 1 (length inner.numerals) complete)
second_none elements.Text contexts.Inscription content inner attributes inside holds few complete =
    has_none content.numerals (length inner.numerals) (few_parts content (gives contexts.WeightText attributes inner) few).numerals (leb-true 1 (length inner.numerals) complete)
second_none elements.Text contexts.Skipped content inner attributes inside holds few complete = absurd (true≢false (sym inside))
second_none elements.Text context content inner attributes inside holds few complete = absurd (true≢false (sym holds))
second_none element context content inner attributes inside holds few complete = refl

net_fits : (element : ElementKind) (context : Context) (content inner : Content) (attributes : List Attribute) → HasFew (content then gives (context_of_kind context element) attributes inner)
    → has_all_nets content element ≡ false
net_fits elements.Net context content inner attributes few =
    let both = few_parts content (gives contexts.Net attributes inner) few in lt-leb MAX_NETS (length content.nets) (omega (arith, both.nets))
net_fits element context content inner attributes few = refl

pub few_same : (content : Content) → HasFew content → HasFew (content then nothing)
few_same content few = subst HasFew (sym (then_nothing content)) few

few_more : (element : ElementKind) (context : Context) (content inner : Content) (attributes : List Attribute) → HasFew content → HasFew inner → is_second context content element ≡ false
    → has_all_nets content element ≡ false → HasFew (content then gives (context_of_kind context element) attributes inner)
few_more elements.Pnml context content inner attributes few own e space =
    let none = none_long content.documents e in few_from content (gives contexts.Pnml attributes inner) (omega arith)
few_more elements.Net context content inner attributes few own e space =
    let room = leb-false MAX_NETS (length content.nets) space in few_from content (gives contexts.Net attributes inner) (omega arith)
few_more elements.Name context content inner attributes few own e space =
    let none = none_long content.names e in few_from content (gives contexts.Name attributes inner) (omega arith)
few_more elements.InitialMarking context content inner attributes few own e space =
    let none = none_long content.numbers e in few_from content (gives contexts.InitialMarking attributes inner) (omega arith)
few_more elements.Inscription context content inner attributes few own e space =
    let none = none_long content.numbers e in few_from content (gives contexts.Inscription attributes inner) (omega arith)
few_more elements.Text contexts.Name content inner attributes few own e space =
    let none = none_long content.texts e in few_from content (gives contexts.NameText attributes inner) (omega arith)
few_more elements.Text contexts.InitialMarking content inner attributes few own e space =
    let none = none_long content.numerals e in few_from content (gives contexts.MarkingText attributes inner) (omega arith)
few_more elements.Text contexts.Inscription content inner attributes few own e space =
    let none = none_long content.numerals e in few_from content (gives contexts.WeightText attributes inner) (omega arith)
few_more elements.Text context content inner attributes few own e space = few_same content few
few_more elements.Graphics context content inner attributes few own e space = few_same content few
few_more elements.Toolspecific context content inner attributes few own e space = few_same content few
few_more element context content inner attributes few own e space = few_from content (gives (context_of_kind context element) attributes inner) (omega arith)

-- ---- an element in any context

is_first_of : (context : Context) (element : Option ElementKind) (content inner : Content) (attributes : List Attribute) → is_inside context ≡ true
    → IsTrue (may_occur_as context element attributes) → HasFew (content then gives (context_if_any context element) attributes inner) → IsTrue (is_complete (context_if_any context element) inner)
    → second_of context content element ≡ false
is_first_of context None content inner attributes inside occurs few complete = refl
is_first_of context (Some element) content inner attributes inside occurs few complete =
    or_from (is_second context content element) (has_all_nets content element)
    (second_none element context content inner attributes inside (and_parts _ (may_hold context element) occurs).1 few complete)
    (net_fits element context content inner attributes few)

few_after_of : (context : Context) (element : Option ElementKind) (content inner : Content) (attributes : List Attribute) → HasFew content → HasFew inner → second_of context content element ≡ false
    → HasFew (content then gives (context_if_any context element) attributes inner)
few_after_of context None content inner attributes few own first = few_same content few
few_after_of context (Some element) content inner attributes few own first =
    let both = or_parts (is_second context content element) (has_all_nets content element) first in
    few_more element context content inner attributes few own both.0 both.1

pub is_first : (context : Context) (content inner : Content) (name : List ℕ) (attributes : List Attribute) → IsTrue (may_occur context name attributes)
    → HasFew (content then gives (context_in context (element_named name)) attributes inner) → IsTrue (is_complete (context_in context (element_named name)) inner)
    → second_in context content (element_named name) ≡ false
is_first contexts.Skipped content inner name attributes occurs few complete = refl
is_first context content inner name attributes occurs few complete = is_first_of context (element_named name) content inner attributes refl occurs few complete

pub few_after : (context : Context) (content inner : Content) (name : List ℕ) (attributes : List Attribute) → HasFew content → HasFew inner
    → second_in context content (element_named name) ≡ false → HasFew (content then gives (context_in context (element_named name)) attributes inner)
few_after contexts.Skipped content inner name attributes few own first = few_same content few
few_after context content inner name attributes few own first = few_after_of context (element_named name) content inner attributes few own first
