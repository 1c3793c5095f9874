-- A token has no reason against it just where it may occur: for each kind of token one law in each direction.
-- The tests are gone through row by row, and the elements and contexts case by case.
use Rattle.std.proofs.Common.{◌≡◌, ℕ, ◌+◌, ◌≤◌, ◌<◌, inl, inr, refl, sym, ap, ◌∙◌, List, [], ◌∷◌, length, Option, Some, None, Bool, true, false, not, ◌&&◌, ◌||◌, IsTrue, nat_le, is_some, is_none, option_to_list, arith, bytes_eq, true≢false}
use Rattle.std.proofs.lemmas.Bool.{and_parts, and_from, and_right, or_cases, or_parts, or_from, or_left, not-false, leb-false, lt-leb, ltb-false, le-ltb}
use Rattle.net_values.specs.declared.limits.TheConstants.{MAX_ARCS, MAX_NAME_BYTES, MAX_OPEN_ELEMENTS, MAX_PAGES, MAX_PLACES, MAX_REFERENCES, MAX_TRANSITIONS}
use Rattle.pnml_grammar.specs.declared.element.ElementKind.{ElementKind}
use Rattle.pnml_grammar.specs.declared.element.ElementKind.TheVariants as elements
use Rattle.pnml_grammar.specs.declared.element.Context.{Context}
use Rattle.pnml_grammar.specs.declared.element.Context.TheVariants as contexts
use Rattle.pnml_grammar.specs.declared.reason.Reason.{Reason}
use Rattle.pnml_grammar.specs.declared.reason.Reason.TheVariants.{TooDeep}
use Rattle.pnml_grammar.specs.declared.token.Attribute.{Attribute}
use Rattle.pnml_grammar.specs.Elements.{element_named, context_in, context_if_any, context_of_kind, may_hold, may_occur, may_occur_as, has_namespace, has_type, has_attributes}
use Rattle.pnml_grammar.specs.Numerals.{is_white, number_in, number_if_any, numeral}
use Rattle.pnml_grammar.specs.Characters.{is_space}
use Rattle.pnml_grammar.specs.Runs.{beyond}
use Rattle.pnml_grammar.specs.Contents.{Content, nothing, ◌then◌, characters_content, cdata_content}
use Rattle.pnml_grammar.specs.Counts.{Counts, ◌plus◌, counts_of_kind, counts_if_any, tag_counts, IsWithin}
use Rattle.pnml_grammar.specs.Documents.{HasFew, is_complete, may_have_characters, may_have_cdata}
use Rattle.pnml_grammar.specs.OpenElements.{Frame, State}
use Rattle.pnml_grammar.specs.Reasons.{first_row, has_some, is_second, has_all_nets, is_pnml, is_number_text, is_full, count_rows, tag_rows, open_rows, is_other_end, end_rows_in, characters_rows, cdata_rows, name_rows, number_rows}
use Rattle.pnml_grammar.proofs.FirstLaws.{has_some_is, has_none, none_long, few_same, second_of, second_in}
use Rattle.pnml_grammar.proofs.ContentLaws.{HaveFew, few_parts, few_from}

-- ---- rows

-- no test holds
abbrev Pass : List (Bool × Reason) → Type 0
Pass [] = Unit
Pass (row ∷ rows) = (row.0 ≡ false) × Pass rows

none_from : (rows : List (Bool × Reason)) → Pass rows → first_row rows ≡ None
none_from [] pass = refl
none_from (row ∷ rows) pass = rw pass.0 (none_from rows pass.1)

first_from : (test : Bool) (reason : Reason) (rows : List (Bool × Reason)) → first_row ((test, reason) ∷ rows) ≡ None → (test ≡ false) × (first_row rows ≡ None)
first_from true reason rows e = absurd cc
first_from false reason rows e = (refl, e)

pass_from : (rows : List (Bool × Reason)) → first_row rows ≡ None → Pass rows
pass_from [] e = tt
pass_from (row ∷ rows) e = let both = first_from row.0 row.1 rows e in (both.0, pass_from rows both.1)

-- ---- counts

count_none : (element : ElementKind) (counts : Counts) → IsWithin (counts plus counts_of_kind element) → Pass (count_rows counts element)
count_none elements.Place counts within = ((lt-leb MAX_PLACES counts.places (omega (arith, within.places))), tt)
count_none elements.Transition counts within = ((lt-leb MAX_TRANSITIONS counts.transitions (omega (arith, within.transitions))), tt)
count_none elements.Arc counts within = ((lt-leb MAX_ARCS counts.arcs (omega (arith, within.arcs))), tt)
count_none elements.ReferencePlace counts within = ((lt-leb MAX_REFERENCES counts.references (omega (arith, within.references))), tt)
count_none elements.ReferenceTransition counts within = ((lt-leb MAX_REFERENCES counts.references (omega (arith, within.references))), tt)
count_none elements.Page counts within = ((lt-leb MAX_PAGES counts.pages (omega (arith, within.pages))), tt)
count_none element counts within = tt

count_passed : (element : ElementKind) (counts : Counts) → IsWithin counts → Pass (count_rows counts element) → IsWithin (counts plus counts_of_kind element)
count_passed elements.Place counts within e = let less = leb-false MAX_PLACES counts.places e.0 in omega arith
count_passed elements.Transition counts within e = let less = leb-false MAX_TRANSITIONS counts.transitions e.0 in omega arith
count_passed elements.Arc counts within e = let less = leb-false MAX_ARCS counts.arcs e.0 in omega arith
count_passed elements.ReferencePlace counts within e = let less = leb-false MAX_REFERENCES counts.references e.0 in omega arith
count_passed elements.ReferenceTransition counts within e = let less = leb-false MAX_REFERENCES counts.references e.0 in omega arith
count_passed elements.Page counts within e = let less = leb-false MAX_PAGES counts.pages e.0 in omega arith
count_passed element counts within e = omega arith

-- ---- empty tags

not_number_text : (context : Context) (element : ElementKind) → IsTrue (is_complete (context_of_kind context element) nothing) → is_number_text context element ≡ false
not_number_text contexts.InitialMarking elements.Text whole = absurd (true≢false (sym whole))
not_number_text contexts.Inscription elements.Text whole = absurd (true≢false (sym whole))
not_number_text contexts.InitialMarking element whole = refl
not_number_text contexts.Inscription element whole = refl
not_number_text context element whole = refl

not_pnml : (context : Context) (element : ElementKind) → IsTrue (is_complete (context_of_kind context element) nothing) → is_pnml element ≡ false
not_pnml context elements.Pnml whole = absurd (true≢false (sym whole))
not_pnml context element whole = refl

whole_from : (element : ElementKind) (context : Context) → is_number_text context element ≡ false → is_pnml element ≡ false → IsTrue (is_complete (context_of_kind context element) nothing)
whole_from elements.Pnml context number root = absurd (true≢false root)
whole_from elements.Text contexts.InitialMarking number root = absurd (true≢false number)
whole_from elements.Text contexts.Inscription number root = absurd (true≢false number)
whole_from elements.Text context number root = refl
whole_from element context number root = refl

none_if_empty : (empty test : Bool) → (empty ≡ true → test ≡ false) → (empty && test) ≡ false
none_if_empty true test h = h refl
none_if_empty false test h = refl

if_empty : (empty test : Bool) → (empty && test) ≡ false → empty ≡ true → test ≡ false
if_empty true test e h = e
if_empty false test e h = absurd (true≢false (sym h))

-- ---- tags

-- an element with this tag may follow what has occurred; an empty one is whole without children
pub record MayOpen (state : State) (empty : Bool) (name : List ℕ) (attributes : List Attribute) : Type 0 where
  pub occurs : IsTrue (may_occur state.top.context name attributes)
  pub first : second_in state.top.context state.top.content (element_named name) ≡ false
  pub room : length state.under < MAX_OPEN_ELEMENTS
  pub counted : IsWithin (state.counts plus tag_counts state.top.context name)
  pub whole : empty ≡ true → IsTrue (is_complete (context_in state.top.context (element_named name)) nothing)

tag_none : (state : State) (empty : Bool) (attributes : List Attribute) (element : Option ElementKind) → IsTrue (may_occur_as state.top.context element attributes)
    → second_of state.top.context state.top.content element ≡ false → length state.under < MAX_OPEN_ELEMENTS → IsWithin (state.counts plus counts_if_any element)
    → (empty ≡ true → IsTrue (is_complete (context_if_any state.top.context element) nothing)) → first_row (tag_rows state empty attributes element) ≡ None
unfolding is_full
tag_none state empty attributes None occurs first room counted whole = absurd (true≢false (sym occurs))
tag_none state empty attributes (Some element) occurs first room counted whole =
    let context = state.top.context in
    let held = and_parts _ (may_hold context element) occurs in
    let had = and_parts _ (has_attributes element attributes) held.0 in
    let typed = and_parts (has_namespace element attributes) (has_type element attributes) had.0 in
    let both = or_parts (is_second context state.top.content element) (has_all_nets state.top.content element) first in
    none_from (tag_rows state empty attributes (Some element)) (
      ap not typed.0,
      (
        ap not typed.1,
        (
          ap not had.1,
          (
            none_if_empty empty (is_number_text context element) (λ e. not_number_text context element (whole e)),
            (
              ap not held.1,
              (
                both.0,
                (
                  none_if_empty empty (is_pnml element) (λ e. not_pnml context element (whole e)),
                  (
                    lt-leb _ _ room,
                    (
                      both.1,
                      count_none element state.counts counted,
                    ),
                  ),
                ),
              ),
            ),
          ),
        ),
      ),
    )

tag_passed : (state : State) (empty : Bool) (attributes : List Attribute) (element : Option ElementKind) → IsWithin state.counts → first_row (tag_rows state empty attributes element) ≡ None
    → IsTrue (may_occur_as state.top.context element attributes) × (second_of state.top.context state.top.content element ≡ false) × (length state.under < MAX_OPEN_ELEMENTS)
    × IsWithin (state.counts plus counts_if_any element) × (empty ≡ true → IsTrue (is_complete (context_if_any state.top.context element) nothing))
unfolding is_full
tag_passed state empty attributes None within e = absurd (true≢false (pass_from (tag_rows state empty attributes None) e).0)
tag_passed state empty attributes (Some element) within e =
    let context = state.top.context in
    let spaced = pass_from (tag_rows state empty attributes (Some element)) e in
    let typed = spaced.1 in
    let had = typed.1 in
    let number = had.1 in
    let held = number.1 in
    let first = held.1 in
    let root = first.1 in
    let room = root.1 in
    let space = room.1 in (
      and_from _ _ (and_from _ _ (and_from _ _ (not-false _ spaced.0) (not-false _ typed.0)) (not-false _ had.0)) (not-false _ held.0),
      or_from _ _ first.0 space.0,
      leb-false _ _ room.0,
      count_passed element state.counts within space.1,
      λ is. whole_from element context (if_empty empty (is_number_text context element) number.0 is) (if_empty empty (is_pnml element) root.0 is),
    )

-- cases on what the tag is in
abbrev state_in : Context → List ℕ → List Attribute → Content → List Frame → Counts → State
state_in context own mine content under counts =
    record { top = record { context = context; name = own; attributes = mine; content = content }; under = under; counts = counts }

open_none_in : (context : Context) (own : List ℕ) (mine : List Attribute) (content : Content) (under : List Frame) (counts : Counts) (empty : Bool) (name : List ℕ) (attributes : List Attribute)
    → MayOpen (state_in context own mine content under counts) empty name attributes → first_row (open_rows (state_in context own mine content under counts) empty name attributes) ≡ None
unfolding is_full
open_none_in contexts.Skipped own mine content under counts empty name attributes may = none_from ((nat_le MAX_OPEN_ELEMENTS (length under), TooDeep) ∷ []) (lt-leb _ _ may.room, tt)
open_none_in context own mine content under counts empty name attributes may =
    tag_none (state_in context own mine content under counts) empty attributes (element_named name) may.occurs may.first may.room may.counted may.whole

pub open_none : (state : State) (empty : Bool) (name : List ℕ) (attributes : List Attribute) → MayOpen state empty name attributes → first_row (open_rows state empty name attributes) ≡ None
open_none state empty name attributes may =
    open_none_in state.top.context state.top.name state.top.attributes state.top.content state.under state.counts empty name attributes may

may_open_in : (context : Context) (own : List ℕ) (mine : List Attribute) (content : Content) (under : List Frame) (counts : Counts) (empty : Bool) (name : List ℕ) (attributes : List Attribute)
    → IsWithin counts → first_row (open_rows (state_in context own mine content under counts) empty name attributes) ≡ None
    → MayOpen (state_in context own mine content under counts) empty name attributes
unfolding is_full
may_open_in contexts.Skipped own mine content under counts empty name attributes within e =
    let room = pass_from ((nat_le MAX_OPEN_ELEMENTS (length under), TooDeep) ∷ []) e in
    record { occurs = refl; first = refl; room = leb-false _ _ room.0; counted = omega arith; whole = λ is. refl }
may_open_in context own mine content under counts empty name attributes within e =
    let all = tag_passed (state_in context own mine content under counts) empty attributes (element_named name) within e in
    record { occurs = all.0; first = all.1; room = all.2; counted = all.3; whole = all.4 }

pub may_open : (state : State) (empty : Bool) (name : List ℕ) (attributes : List Attribute) → IsWithin state.counts → first_row (open_rows state empty name attributes) ≡ None → MayOpen state empty name attributes
may_open state empty name attributes within e =
    may_open_in state.top.context state.top.name state.top.attributes state.top.content state.under state.counts empty name attributes within e

-- ---- end tags

abbrev pub is_outside : Context → Bool
is_outside contexts.Document = true
is_outside _ = false

-- an end tag of the element, which is whole
pub record MayEnd (context : Context) (content : Content) (own name : List ℕ) : Type 0 where
  pub inside : is_outside context ≡ false
  pub same : bytes_eq own name ≡ true
  pub complete : IsTrue (is_complete context content)

lacks_none : {A : Type 0} (other : Bool) (xs : List A) → IsTrue (nat_le 1 (length xs)) → (not other && not (has_some xs)) ≡ false
lacks_none other xs e = and_right (not other) (not (has_some xs)) (ap not (has_some_is xs ∙ e))

lacks_nothing : {A : Type 0} (xs : List A) → (not false && not (has_some xs)) ≡ false → IsTrue (nat_le 1 (length xs))
lacks_nothing xs e = sym (has_some_is xs) ∙ not-false (has_some xs) e

pub end_none : (context : Context) (content : Content) (own name : List ℕ) → MayEnd context content own name → first_row (end_rows_in context content (is_other_end context own name)) ≡ None
end_none contexts.Document content own name may = absurd (true≢false may.inside)
end_none contexts.MarkingText content own name may =
    none_from (end_rows_in contexts.MarkingText content (not (bytes_eq own name))) (lacks_none _ content.numerals may.complete, (ap not may.same, tt))
end_none contexts.WeightText content own name may =
    none_from (end_rows_in contexts.WeightText content (not (bytes_eq own name))) (lacks_none _ content.numerals may.complete, (ap not may.same, tt))
end_none contexts.Pnml content own name may =
    none_from (end_rows_in contexts.Pnml content (not (bytes_eq own name))) (or_from _ _ (ap not may.same) (ap not (has_some_is content.nets ∙ may.complete)), tt)
end_none context content own name may = none_from (end_rows_in context content (not (bytes_eq own name))) (ap not may.same, tt)

numbered_end : {A : Type 0} (other : Bool) (xs : List A) → other ≡ false → (not other && not (has_some xs)) ≡ false → IsTrue (nat_le 1 (length xs))
numbered_end true xs same e = absurd (true≢false same)
numbered_end false xs same e = lacks_nothing xs e

pub may_end : (context : Context) (content : Content) (own name : List ℕ) → first_row (end_rows_in context content (is_other_end context own name)) ≡ None → MayEnd context content own name
may_end contexts.Document content own name e = absurd (true≢false (pass_from (end_rows_in contexts.Document content true) e).0)
may_end contexts.MarkingText content own name e =
    let pass = pass_from (end_rows_in contexts.MarkingText content (not (bytes_eq own name))) e in
    record { inside = refl; same = not-false _ pass.1.0; complete = numbered_end _ content.numerals pass.1.0 pass.0 }
may_end contexts.WeightText content own name e =
    let pass = pass_from (end_rows_in contexts.WeightText content (not (bytes_eq own name))) e in
    record { inside = refl; same = not-false _ pass.1.0; complete = numbered_end _ content.numerals pass.1.0 pass.0 }
may_end contexts.Pnml content own name e =
    let pass = pass_from (end_rows_in contexts.Pnml content (not (bytes_eq own name))) e in
    let parts = or_parts (not (bytes_eq own name)) (not (has_some content.nets)) pass.0 in
    record { inside = refl; same = not-false _ parts.0; complete = sym (has_some_is content.nets) ∙ not-false _ parts.1 }
may_end context content own name e =
    let pass = pass_from (end_rows_in context content (not (bytes_eq own name))) e in
    record { inside = refl; same = not-false _ pass.0; complete = refl }

-- ---- characters

-- no number is in range outside the texts of numbers
abbrev is_numbered : Context → Bool
is_numbered contexts.MarkingText = true
is_numbered contexts.WeightText = true
is_numbered _ = false

no_number_of : (context : Context) (number : Option ℕ) → is_numbered context ≡ false → number_if_any context number ≡ None
no_number_of contexts.MarkingText number e = absurd (true≢false e)
no_number_of contexts.WeightText number e = absurd (true≢false e)
no_number_of context None e = refl
no_number_of context (Some number) e = refl

white_if_none : (context : Context) (value : List ℕ) → is_numbered context ≡ false → (is_white value || is_some (number_in context value)) ≡ true → is_white value ≡ true
unfolding number_in
white_if_none context value other e =
    elim (or_cases (is_white value) (is_some (number_in context value)) e) [
      | inl white ↦ white
      | inr some ↦ absurd (true≢false (sym some ∙ ap is_some (no_number_of context (numeral value) other)))
    ]

name_none : (content : Content) (value : List ℕ) → HaveFew content (record nothing { bytes = value }) → first_row (name_rows content value) ≡ None
name_none content value few = none_from (name_rows content value) (le-ltb MAX_NAME_BYTES (length content.bytes + length value) few.bytes, tt)

name_passed : (content : Content) (value : List ℕ) → HasFew content → first_row (name_rows content value) ≡ None → HasFew (content then record nothing { bytes = value })
name_passed content value few e =
    let pass = pass_from (name_rows content value) e in
    let short = ltb-false MAX_NAME_BYTES (length content.bytes + length value) pass.0 in
    few_from content (record nothing { bytes = value }) (omega arith)

-- the first number of a text, and no other
number_first : (white : Bool) (found : Option ℕ) (numerals : List ℕ) → (white || is_some found) ≡ true → length numerals + length (option_to_list found) ≤ 1
    → ((not white && is_none found) ≡ false) × ((not white && has_some numerals) ≡ false)
number_first true found numerals e few = (refl, refl)
number_first false (Some number) numerals e few = (refl, has_none numerals 1 few (omega arith))
number_first false None numerals e few = absurd (true≢false (sym e))

white_after : (value : List ℕ) → is_white value ≡ true → beyond is_space value ≡ []
white_after [] e = refl
white_after (byte ∷ value) e = let parts = and_parts (is_space byte) (is_white value) e in rw parts.0 (white_after value parts.1)

no_digits : (value : List ℕ) → beyond is_space value ≡ [] → numeral value ≡ None
unfolding numeral
no_digits value e = rw e refl

white_no_number : (context : Context) (value : List ℕ) → is_white value ≡ true → number_in context value ≡ None
unfolding number_in
white_no_number context value e = ap (number_if_any context) (no_digits value (white_after value e))

number_passed : (white : Bool) (found : Option ℕ) (numerals : List ℕ) → (white ≡ true → found ≡ None) → length numerals ≤ 1 → (not white && is_none found) ≡ false
    → (not white && has_some numerals) ≡ false → ((white || is_some found) ≡ true) × (length numerals + length (option_to_list found) ≤ 1)
number_passed true None numerals none few one two = (refl, omega arith)
number_passed true (Some number) numerals none few one two = let no_number = none refl in absurd cc
number_passed false None numerals none few one two = absurd (true≢false one)
number_passed false (Some number) numerals none few one two = let empty = none_long numerals two in (refl, omega arith)

-- characters may follow what has occurred
pub record MayOccur (test : Bool) (content more : Content) : Type 0 where
  pub occurs : test ≡ true
  pub few : HasFew (content then more)

pub characters_none : (context : Context) (content : Content) (value : List ℕ) → MayOccur (may_have_characters context value) content (characters_content context value)
    → first_row (characters_rows context content value) ≡ None
characters_none contexts.NameText content value may = name_none content value (few_parts content (record nothing { bytes = value }) may.few)
characters_none contexts.MarkingText content value may =
    let parts = few_parts content (characters_content contexts.MarkingText value) may.few in
    let both = number_first (is_white value) (number_in contexts.MarkingText value) content.numerals may.occurs parts.numerals in
    none_from (number_rows contexts.MarkingText content value) (both.0, (both.1, tt))
characters_none contexts.WeightText content value may =
    let parts = few_parts content (characters_content contexts.WeightText value) may.few in
    let both = number_first (is_white value) (number_in contexts.WeightText value) content.numerals may.occurs parts.numerals in
    none_from (number_rows contexts.WeightText content value) (both.0, (both.1, tt))
characters_none contexts.Skipped content value may = refl
characters_none context content value may = none_from (characters_rows context content value) (ap not (white_if_none context value refl may.occurs), tt)

pub may_characters : (context : Context) (content : Content) (value : List ℕ) → HasFew content → first_row (characters_rows context content value) ≡ None
    → MayOccur (may_have_characters context value) content (characters_content context value)
may_characters contexts.NameText content value few e = record { occurs = refl; few = name_passed content value few e }
may_characters contexts.MarkingText content value few e =
    let pass = pass_from (number_rows contexts.MarkingText content value) e in
    let both = number_passed (is_white value) (number_in contexts.MarkingText value) content.numerals (white_no_number contexts.MarkingText value) few.numerals pass.0 pass.1.0 in
    record { occurs = both.0; few = few_from content (characters_content contexts.MarkingText value) (omega (arith, both.1)) }
may_characters contexts.WeightText content value few e =
    let pass = pass_from (number_rows contexts.WeightText content value) e in
    let both = number_passed (is_white value) (number_in contexts.WeightText value) content.numerals (white_no_number contexts.WeightText value) few.numerals pass.0 pass.1.0 in
    record { occurs = both.0; few = few_from content (characters_content contexts.WeightText value) (omega (arith, both.1)) }
may_characters contexts.Skipped content value few e = record { occurs = refl; few = few_same content few }
may_characters context content value few e =
    let pass = pass_from (characters_rows context content value) e in
    record { occurs = or_left (is_white value) (is_some (number_in context value)) (not-false _ pass.0); few = few_same content few }

pub cdata_none : (context : Context) (content : Content) (value : List ℕ) → MayOccur (may_have_cdata context) content (cdata_content context value)
    → first_row (cdata_rows context content value) ≡ None
cdata_none contexts.NameText content value may = name_none content value (few_parts content (record nothing { bytes = value }) may.few)
cdata_none contexts.Skipped content value may = refl
cdata_none context content value may = absurd (true≢false (sym may.occurs))

pub may_cdata : (context : Context) (content : Content) (value : List ℕ) → HasFew content → first_row (cdata_rows context content value) ≡ None
    → MayOccur (may_have_cdata context) content (cdata_content context value)
may_cdata contexts.NameText content value few e = record { occurs = refl; few = name_passed content value few e }
may_cdata contexts.Skipped content value few e = record { occurs = refl; few = few_same content few }
may_cdata context content value few e = absurd (true≢false (pass_from (cdata_rows context content value) e).0)
