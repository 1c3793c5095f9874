-- The tokens of an input that comes in pieces.
use Rattle.std.specs.Prelude.{◌≡◌, ℕ, ◌+◌, List, [], ◌++◌, Option, None, Some, length, take, drop}
use Rattle.pnml_grammar.specs.declared.token.Attribute.{Attribute}
use Rattle.pnml_grammar.specs.declared.token.Token.{Token}
use Rattle.pnml_grammar.specs.declared.token.Token.TheVariants.{Empty, Characters}
use Rattle.pnml_grammar.specs.Tokens.{Occurs}
use Rattle.pnml_grammar.specs.Reasons.{reason_without_token}
use Rattle.pnml_token.specs.declared.token.TokenFault.{TokenFault}

-- the offset of the next token and the bytes held from there on; or a refusal, and how many bytes were taken before it
pub data State : Type 0 where
  Live : ℕ → List ℕ → State
  Refused : TokenFault → ℕ → State

-- what is kept: after a refusal nothing is held
abbrev pub state_of : Option TokenFault → ℕ → List ℕ → State
state_of None offset held = Live offset held
state_of (Some fault) offset held = Refused fault (offset + length held)

abbrev pub next_offset : State → ℕ
next_offset (Live offset held) = offset
next_offset (Refused fault fed) = fed

abbrev pub held_bytes : State → List ℕ
held_bytes (Live offset held) = held
held_bytes (Refused fault fed) = []

-- how many bytes were taken so far
abbrev pub fed_bytes : State → ℕ
fed_bytes (Live offset held) = offset + length held
fed_bytes (Refused fault fed) = fed

-- of a state that is no refusal
abbrev pub IfLive : State → (ℕ → List ℕ → Type 0) → Type 0
IfLive (Live offset held) P = P offset held
IfLive (Refused fault fed) P = Unit

-- of the fault of a refusal
abbrev pub IfRefused : State → (TokenFault → Type 0) → Type 0
IfRefused (Live offset held) P = Unit
IfRefused (Refused fault fed) P = P fault

-- whatever follows the piece, the token occurs, and it is spelled by the bytes held and so many of the piece
abbrev pub Settles : List ℕ → List ℕ → ℕ → Token → Type 0
Settles held piece taken token = (more : List ℕ) → Occurs (held ++ (piece ++ more)) token (held ++ take taken piece) (drop taken piece ++ more)

-- whatever follows the piece, an empty tag occurs at its front, spelled by so many bytes; nothing is held
abbrev pub PassesEmptyTag : List ℕ → List ℕ → ℕ → Type 0
PassesEmptyTag held piece taken =
    (held ≡ []) × (name : List ℕ) × (attributes : List Attribute) × Settles held piece taken (Empty name attributes)

-- the same of characters
abbrev pub PassesCharacters : List ℕ → List ℕ → ℕ → Type 0
PassesCharacters held piece taken = (held ≡ []) × (value : List ℕ) × Settles held piece taken (Characters value)

-- the token occurs at the front
abbrev pub Begins : List ℕ → Token → Type 0
Begins bytes token = (spelling : List ℕ) × (rest : List ℕ) × Occurs bytes token spelling rest

-- there is no one token that occurs whatever follows
abbrev pub IsUnsettled : List ℕ → Type 0
IsUnsettled bytes = (token : Token) → ((more : List ℕ) → Begins (bytes ++ more) token) → ⊥

-- no token occurs at the front
abbrev pub HasNoToken : List ℕ → Type 0
HasNoToken bytes = (token : Token) → Begins bytes token → ⊥

-- whatever follows, no token occurs
abbrev pub IsHopeless : List ℕ → Type 0
IsHopeless bytes = (more : List ℕ) → HasNoToken (bytes ++ more)

-- whatever follows, the reason that no token occurs is the same: no `<!DOCTYPE` is cut
abbrev pub TellsReason : List ℕ → Type 0
TellsReason bytes = (more : List ℕ) → reason_without_token (bytes ++ more) ≡ reason_without_token bytes
