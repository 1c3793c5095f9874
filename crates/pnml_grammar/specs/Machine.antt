-- Reading token by token: what each token does to the open elements, and what a list of tokens leads to.
use Rattle.std.specs.Prelude.{ℕ, List, [], ◌∷◌, Option, Some, None, is_none, if◌then◌else◌, false}
use Rattle.net_values.specs.declared.document.Document.{Document}
use Rattle.pnml_grammar.specs.declared.element.Context.{Context}
use Rattle.pnml_grammar.specs.declared.reason.Reason.{Reason}
use Rattle.pnml_grammar.specs.declared.token.Token.{Token}
use Rattle.pnml_grammar.specs.declared.token.Token.TheVariants as tokens
use Rattle.pnml_grammar.specs.declared.token.Attribute.{Attribute}
use Rattle.pnml_grammar.specs.Elements.{element_named, context_in}
use Rattle.pnml_grammar.specs.Contents.{Content, nothing, ◌then◌, gives, characters_content, cdata_content}
use Rattle.pnml_grammar.specs.Counts.{Counts, no_counts, ◌plus◌, tag_counts}
use Rattle.pnml_grammar.specs.OpenElements.{Frame, State, outermost}
use Rattle.pnml_grammar.specs.Reasons.{first_row, rows}
use Rattle.pnml_grammar.specs.Runs.{◌>>=◌}

abbrev pub start : State
start = record { top = outermost; under = []; counts = no_counts }

-- why a token is refused; a declaration in front is taken before the others
abbrev pub reason_of : State → Token → Option Reason
reason_of state token = first_row (rows false state token)

-- ---- what a token does

-- the content is given to the innermost open element
abbrev pub receive : Content → Frame → Frame
receive content frame = record frame { content = frame.content then content }

abbrev pub put : State → Content → State
put state content = record state { top = receive content state.top }

abbrev pub open_frame : Context → List ℕ → List Attribute → Frame
open_frame context name attributes =
    record { context = context_in context (element_named name); name = name; attributes = attributes; content = nothing }

abbrev pub open_element : State → List ℕ → List Attribute → State
open_element state name attributes = record {
  top = open_frame state.top.context name attributes;
  under = state.top ∷ state.under;
  counts = state.counts plus tag_counts state.top.context name;
}

abbrev pub close_into : Frame → List Frame → Counts → State
close_into top [] counts = record { top = top; under = []; counts = counts }
close_into top (frame ∷ frames) counts =
    record { top = receive (gives top.context top.attributes top.content) frame; under = frames; counts = counts }

abbrev pub close_element : State → State
close_element state = close_into state.top state.under state.counts

abbrev pub next : State → Token → State
next state tokens.Declaration = state
next state tokens.Comment = state
next state tokens.Instruction = state
next state (tokens.Cdata value) = put state (cdata_content state.top.context value)
next state (tokens.Start name attributes) = open_element state name attributes
next state (tokens.Empty name attributes) = close_element (open_element state name attributes)
next state (tokens.End name) = close_element state
next state (tokens.Characters value) = put state (characters_content state.top.context value)

-- ---- one token after the other

abbrev pub step : State → Token → Option State
step state token = if is_none (reason_of state token) then Some (next state token) else None

abbrev pub run : State → List Token → Option State
run state [] = Some state
run state (token ∷ list) = step state token >>= λ after. run after list

-- a declaration is taken in front only
abbrev pub after_declaration : List Token → List Token
after_declaration (tokens.Declaration ∷ list) = list
after_declaration list = list

-- the document, where the root is closed
abbrev pub the_one : List Document → Option Document
the_one [] = None
the_one (document ∷ []) = Some document
the_one (document ∷ other ∷ documents) = None

abbrev pub finish_with : Frame → List Frame → Option Document
finish_with top [] = the_one top.content.documents
finish_with top (frame ∷ frames) = None

abbrev pub finish : State → Option Document
finish state = finish_with state.top state.under

-- what the tokens lead to, and the document that they spell
unfoldable pub reached : List Token → Option State
reached list = run start (after_declaration list)

unfoldable pub read : List Token → Option Document
read list = reached list >>= finish
