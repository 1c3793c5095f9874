-- Why the input is refused at an offset. Ten rows are tried in this order, and the first that applies is the reason:
--
--    1 BadToken        bytes are there, no token is, and they don't begin with `<!DOCTYPE`
--    2 Doctype         no token is there, and the bytes begin with `<!DOCTYPE`
--    3 UnknownElement  a tag has a name that isn't one of the fourteen
--    4 OtherNamespace  a `pnml` tag lacks `xmlns` or has another value, or another read tag has another value
--    5 OtherType       a `net` tag has a `type` of another value
--    6 BadAttribute    a read tag has an attribute that it may not have, or lacks one that it needs
--    7 BadNumber       characters in a number's text are no number in range, or the text has none
--    8 Misplaced       one of the cases M1 to M9
--    9 TooDeep         a tag is where MAX_OPEN_ELEMENTS elements are open
--   10 TooMany         a tag passes a count, or a name is too long
--
--   M1 late declaration        a declaration that isn't the first token
--   M2 element out of place    an element that may not be in the open one at all
--   M3 other root              a root other than `pnml`
--   M4 element after the root  any element after the root
--   M5 second of its kind      a second name, initial marking, inscription or text of one element
--   M6 stray characters        characters that aren't white space, outside `text` or after the number in it
--   M7 stray CDATA section     a CDATA section outside the text of a name
--   M8 end tag without start   an end tag that isn't that of the innermost open element
--   M9 root without a net      an empty tag `pnml`, or `</pnml>` before a net
--
-- In a skipped part only 1, 2, M1, M8 and 9 apply. Rows 1 and 2 are about the bytes, the others about a token and
-- the elements that are open where it occurs.
use Rattle.std.specs.Prelude.{ℕ, ◌+◌, Bool, true, false, ◌&&◌, ◌||◌, not, nat_le, nat_lt, nat_eq, List, [], ◌∷◌, Option, Some, None, is_none, length, codes, if◌then◌else◌, bytes_eq}
use Rattle.std.specs.List.{starts_with}
use Rattle.net_values.specs.declared.limits.TheConstants.{MAX_ARCS, MAX_NAME_BYTES, MAX_NETS, MAX_OPEN_ELEMENTS, MAX_PAGES, MAX_PLACES, MAX_REFERENCES, MAX_TRANSITIONS}
use Rattle.pnml_grammar.specs.declared.element.ElementKind.{ElementKind}
use Rattle.pnml_grammar.specs.declared.element.ElementKind.TheVariants as elements
use Rattle.pnml_grammar.specs.declared.element.Context.{Context}
use Rattle.pnml_grammar.specs.declared.element.Context.TheVariants as contexts
use Rattle.pnml_grammar.specs.declared.reason.Reason.{Reason}
use Rattle.pnml_grammar.specs.declared.reason.Reason.TheVariants.{BadToken, Doctype, UnknownElement, OtherNamespace, OtherType, BadAttribute, BadNumber, Misplaced, TooDeep, TooMany}
use Rattle.pnml_grammar.specs.declared.reason.Counted.TheVariants as counted
use Rattle.pnml_grammar.specs.declared.token.Token.{Token}
use Rattle.pnml_grammar.specs.declared.token.Token.TheVariants as tokens
use Rattle.pnml_grammar.specs.declared.token.Attribute.{Attribute}
use Rattle.pnml_grammar.specs.Elements.{element_named, may_hold, has_namespace, has_type, has_attributes}
use Rattle.pnml_grammar.specs.Numerals.{is_white, number_in}
use Rattle.pnml_grammar.specs.Contents.{Content}
use Rattle.pnml_grammar.specs.Counts.{Counts}
use Rattle.pnml_grammar.specs.OpenElements.{State}

-- a row: whether it applies, and the reason that it gives
abbrev pub Row : Type 0
Row = Bool × Reason

-- the reason of the first row that applies
abbrev pub first_row : List Row → Option Reason
first_row [] = None
first_row (row ∷ rows) = if row.0 then Some row.1 else first_row rows

abbrev pub has_some : {A : Type 0} → List A → Bool
has_some [] = false
has_some (x ∷ xs) = true

-- ---- where no token is

-- rows 1 and 2
abbrev pub reason_without_token : List ℕ → Reason
reason_without_token bytes = if starts_with nat_eq bytes (codes "<!DOCTYPE") then Doctype else BadToken

-- ---- a start tag, or an empty one

-- row 7: an empty tag `text` directly in an initial marking or an inscription
abbrev pub is_number_text : Context → ElementKind → Bool
is_number_text contexts.InitialMarking elements.Text = true
is_number_text contexts.Inscription elements.Text = true
is_number_text _ _ = false

-- M4 and M5: a second root, or a second name, number or text of one element
abbrev pub is_second : Context → Content → ElementKind → Bool
is_second context content elements.Pnml = has_some content.documents
is_second context content elements.Name = has_some content.names
is_second context content elements.InitialMarking = has_some content.numbers
is_second context content elements.Inscription = has_some content.numbers
is_second contexts.Name content elements.Text = has_some content.texts
is_second context content elements.Text = has_some content.numerals
is_second context content _ = false

-- M9: an empty tag `pnml`
abbrev pub is_pnml : ElementKind → Bool
is_pnml elements.Pnml = true
is_pnml _ = false

-- row 9: as many elements are open as may be
unfoldable pub is_full : State → Bool
is_full state = nat_le MAX_OPEN_ELEMENTS (length state.under)

-- row 10: a net where MAX_NETS nets are whole. A net is in the root only, so no net is open there
abbrev pub has_all_nets : Content → ElementKind → Bool
has_all_nets content elements.Net = nat_le MAX_NETS (length content.nets)
has_all_nets content _ = false

-- row 10: one more element of the kind passes its count
abbrev pub count_rows : Counts → ElementKind → List Row
count_rows counts elements.Place = (nat_le MAX_PLACES counts.places, TooMany counted.Places) ∷ []
count_rows counts elements.Transition = (nat_le MAX_TRANSITIONS counts.transitions, TooMany counted.Transitions) ∷ []
count_rows counts elements.Arc = (nat_le MAX_ARCS counts.arcs, TooMany counted.Arcs) ∷ []
count_rows counts elements.ReferencePlace = (nat_le MAX_REFERENCES counts.references, TooMany counted.References) ∷ []
count_rows counts elements.ReferenceTransition = (nat_le MAX_REFERENCES counts.references, TooMany counted.References) ∷ []
count_rows counts elements.Page = (nat_le MAX_PAGES counts.pages, TooMany counted.Pages) ∷ []
count_rows counts _ = []

-- rows 3 to 10, outside skipped parts; M3 and M4 of another element than `pnml` are M2 around the root
abbrev pub tag_rows : State → Bool → List Attribute → Option ElementKind → List Row
tag_rows state empty attributes None = (true, UnknownElement) ∷ []
tag_rows state empty attributes (Some element) =
    (not (has_namespace element attributes), OtherNamespace)
    ∷ (not (has_type element attributes), OtherType)
    ∷ (not (has_attributes element attributes), BadAttribute)
    ∷ (empty && is_number_text state.top.context element, BadNumber)
    ∷ (not (may_hold state.top.context element), Misplaced)
    ∷ (is_second state.top.context state.top.content element, Misplaced)
    ∷ (empty && is_pnml element, Misplaced)
    ∷ (is_full state, TooDeep)
    ∷ (has_all_nets state.top.content element, TooMany counted.Nets)
    ∷ count_rows state.counts element

-- row 9 only, in skipped parts
abbrev pub open_rows_in : Context → State → Bool → List ℕ → List Attribute → List Row
open_rows_in contexts.Skipped state empty name attributes = (is_full state, TooDeep) ∷ []
open_rows_in _ state empty name attributes = tag_rows state empty attributes (element_named name)

abbrev pub open_rows : State → Bool → List ℕ → List Attribute → List Row
open_rows state empty name attributes = open_rows_in state.top.context state empty name attributes

-- ---- an end tag

-- M8: one that isn't that of the innermost open element, and one where none is open
abbrev pub is_other_end : Context → List ℕ → List ℕ → Bool
is_other_end contexts.Document own name = true
is_other_end _ own name = not (bytes_eq own name)

-- row 7 where a number's text has no number, M8, and M9 where the root has no net
abbrev pub end_rows_in : Context → Content → Bool → List Row
end_rows_in contexts.MarkingText content other = (not other && not (has_some content.numerals), BadNumber) ∷ (other, Misplaced) ∷ []
end_rows_in contexts.WeightText content other = (not other && not (has_some content.numerals), BadNumber) ∷ (other, Misplaced) ∷ []
end_rows_in contexts.Pnml content other = (other || not (has_some content.nets), Misplaced) ∷ []
end_rows_in _ content other = (other, Misplaced) ∷ []

abbrev pub end_rows : State → List ℕ → List Row
end_rows state name = end_rows_in state.top.context state.top.content (is_other_end state.top.context state.top.name name)

-- ---- characters and CDATA sections

-- row 10: the text of a name is longer than a name may be
abbrev pub name_rows : Content → List ℕ → List Row
name_rows content value = (nat_lt MAX_NAME_BYTES (length content.bytes + length value), TooMany counted.NameBytes) ∷ []

-- row 7, and M6 after the number
abbrev pub number_rows : Context → Content → List ℕ → List Row
number_rows context content value =
    (not (is_white value) && is_none (number_in context value), BadNumber)
    ∷ (not (is_white value) && has_some content.numerals, Misplaced)
    ∷ []

-- M6 outside `text`
abbrev pub characters_rows : Context → Content → List ℕ → List Row
characters_rows contexts.NameText content value = name_rows content value
characters_rows contexts.MarkingText content value = number_rows contexts.MarkingText content value
characters_rows contexts.WeightText content value = number_rows contexts.WeightText content value
characters_rows contexts.Skipped content value = []
characters_rows _ content value = (not (is_white value), Misplaced) ∷ []

-- M7
abbrev pub cdata_rows : Context → Content → List ℕ → List Row
cdata_rows contexts.NameText content value = name_rows content value
cdata_rows contexts.Skipped content value = []
cdata_rows _ content value = (true, Misplaced) ∷ []

-- ---- any token

-- the rows of a token, which is the first or isn't. The first line is M1
abbrev pub rows : Bool → State → Token → List Row
rows first state tokens.Declaration = (not first, Misplaced) ∷ []
rows first state tokens.Comment = []
rows first state tokens.Instruction = []
rows first state (tokens.Cdata value) = cdata_rows state.top.context state.top.content value
rows first state (tokens.Start name attributes) = open_rows state false name attributes
rows first state (tokens.Empty name attributes) = open_rows state true name attributes
rows first state (tokens.End name) = end_rows state name
rows first state (tokens.Characters value) = characters_rows state.top.context state.top.content value

-- why the token is refused that follows tokens after which the elements of the state are open
abbrev pub reason_after : List Token → State → Token → Option Reason
reason_after [] state token = first_row (rows true state token)
reason_after (_ ∷ _) state token = first_row (rows false state token)
