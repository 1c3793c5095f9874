-- What the reader says of a token: it takes the token where no test holds, and names the reason of the first
-- that does. Out of memory is said only where none holds.
use Rattle.std.specs.Prelude.{◌≡◌, ℕ, Bool, true, false, not, ◌&&◌, List, [], ◌∷◌, Option, Some, None, Result, Ok, Err}
use Rattle.pnml_grammar.specs.declared.element.Context.TheVariants as contexts
use Rattle.pnml_grammar.specs.declared.element.ElementKind.{ElementKind}
use Rattle.pnml_grammar.specs.declared.reason.Reason.{Reason}
use Rattle.pnml_grammar.specs.declared.reason.Reason.TheVariants.{BadNumber, Misplaced, TooDeep, TooMany}
use Rattle.pnml_grammar.specs.declared.reason.Counted.TheVariants.{Nets}
use Rattle.pnml_grammar.specs.declared.token.Token.{Token}
use Rattle.pnml_grammar.specs.declared.token.Token.TheVariants as tokens
use Rattle.pnml_grammar.specs.Contents.{Content as Given}
use Rattle.pnml_grammar.specs.Elements.{may_hold}
use Rattle.pnml_grammar.specs.OpenElements.{State}
use Rattle.pnml_grammar.specs.Reasons.{Row, first_row, count_rows, is_number_text, is_second, is_pnml, is_full, has_all_nets}
use Rattle.pnml_grammar.specs.Machine.{reason_of, next}
use Rattle.pnml_token.specs.Streams.{Settles}
use Rattle.pnml_decode.specs.declared.open.Open.{Open}
use Rattle.pnml_decode.specs.declared.reader.Reader.{Reader}
use Rattle.pnml_decode.specs.declared.reader_fault.ReaderFault.{ReaderFault}
use Rattle.pnml_decode.specs.declared.reader_fault.ReaderFault.TheVariants.{NoMemory, Because}
use Rattle.pnml_decode.specs.Views.{view, Receives}

-- the reason that is named; out of memory names none
abbrev pub reason_named : ReaderFault → Option Reason
reason_named NoMemory = None
reason_named (Because reason) = Some reason

-- the reader's answer to a token
abbrev pub Takes : {X : Type 0} → Result X ReaderFault → Reader → Reader → Token → Type 0
Takes (Ok done) old new token = (reason_of (view old) token ≡ None) × (view new ≡ next (view old) token)
Takes (Err fault) old new token = reason_named fault ≡ reason_of (view old) token

-- an open element's answer to a text, by its tests and what it gives
abbrev pub Accepts : {X : Type 0} → Result X ReaderFault → Open → Open → List Row → Given → Type 0
Accepts (Ok done) old new rows given = (first_row rows ≡ None) × Receives old new given
Accepts (Err fault) old new rows given = reason_named fault ≡ first_row rows

-- the answer of a check of the tests in front of these last ones
abbrev pub Checks : {X : Type 0} → Result X Reason → List Row → List Row → Type 0
Checks (Ok done) rows last = first_row rows ≡ first_row last
Checks (Err reason) rows last = first_row rows ≡ Some reason

-- the tests of a tag whose attributes are right
abbrev pub place_rows : State → Bool → ElementKind → List Row
place_rows state empty element =
    (empty && is_number_text state.top.context element, BadNumber)
    ∷ (not (may_hold state.top.context element), Misplaced)
    ∷ (is_second state.top.context state.top.content element, Misplaced)
    ∷ (empty && is_pnml element, Misplaced)
    ∷ (is_full state, TooDeep)
    ∷ (has_all_nets state.top.content element, TooMany Nets)
    ∷ count_rows state.counts element

-- the innermost open element is skipped, and one more may be open: an empty tag is taken and changes nothing, as
-- characters do
abbrev pub Skips : State → Type 0
Skips state = (state.top.context ≡ contexts.Skipped) × (is_full state ≡ false)

-- a token that then changes nothing
abbrev pub is_idle : Token → Bool
is_idle (tokens.Empty name attributes) = true
is_idle (tokens.Characters value) = true
is_idle _ = false

-- whatever follows the piece, such a token occurs at its front, spelled by so many bytes; nothing is held
abbrev pub PassesIdle : List ℕ → List ℕ → ℕ → Type 0
PassesIdle held piece taken = (held ≡ []) × (token : Token) × (is_idle token ≡ true) × Settles held piece taken token
