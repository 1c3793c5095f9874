-- What a step or a fault says.
use Rattle.std.specs.Prelude.{◌≡◌, ℕ, Bool, true, false, List, length, Result, Ok, Err}
use Rattle.pnml_grammar.specs.declared.token.Attribute.{Attribute}
use Rattle.pnml_grammar.specs.declared.token.Token.{Token}
use Rattle.pnml_grammar.specs.declared.token.Token.TheVariants.{Empty, Characters}
use Rattle.pnml_grammar.specs.Tokens.{Occurs, TokenAt}
use Rattle.pnml_token.specs.declared.miss.Miss.{Miss}
use Rattle.pnml_token.specs.declared.miss.Miss.TheVariants as misses
use Rattle.pnml_token.specs.declared.miss.Miss.TheVariants.{NoToken}
use Rattle.pnml_token.specs.declared.token.Step.{Step}
use Rattle.pnml_token.specs.declared.token.Step.TheVariants as steps
use Rattle.pnml_token.specs.declared.token.TokenFault.{TokenFault}
use Rattle.pnml_token.specs.declared.token.TokenFault.TheVariants.{BadToken, NoMemory}

-- of a token and its end
abbrev pub IfToken : Step → (Token → ℕ → Type 0) → Type 0
IfToken (steps.Token token e) P = P token e
IfToken steps.End P = Unit

-- where the step is the end
abbrev pub IfEnd : Step → Type 0 → Type 0
IfEnd (steps.Token token e) P = Unit
IfEnd steps.End P = P

-- of the offset of a bad token
abbrev pub IfBadToken : TokenFault → (ℕ → Type 0) → Type 0
IfBadToken (BadToken at) P = P at
IfBadToken NoMemory P = Unit

-- where nothing of its kind is there
abbrev pub IfNoToken : Miss → Type 0 → Type 0
IfNoToken NoToken P = P
IfNoToken misses.NoMemory P = Unit

-- why no step is answered at the offset
abbrev pub fault_at : ℕ → Miss → TokenFault
fault_at offset NoToken = BadToken offset
fault_at offset misses.NoMemory = NoMemory

-- whether a token goes on to the next `<`
abbrev pub is_characters : Token → Bool
is_characters (Characters value) = true
is_characters _ = false

-- an empty tag occurs at the offset and has this end
abbrev pub EndsEmptyTag : List ℕ → ℕ → ℕ → Type 0
EndsEmptyTag bytes offset e = (name : List ℕ) × (attributes : List Attribute) × TokenAt bytes offset (Empty name attributes) e

-- the answer is the end
abbrev pub IsEndIfAny : Result Step TokenFault → Type 0
IsEndIfAny r = r ≡ Ok steps.End

-- the token that occurs at the front of the bytes, with the length of its spelling; or none does
abbrev pub Finds : Result (Token × ℕ) Miss → List ℕ → Type 0
Finds (Ok found) bytes = (spelling : List ℕ) × (rest : List ℕ) × Occurs bytes found.0 spelling rest × (found.1 ≡ length spelling)
Finds (Err NoToken) bytes = (token : Token) (spelling rest : List ℕ) → Occurs bytes token spelling rest → ⊥
Finds (Err misses.NoMemory) bytes = Unit
