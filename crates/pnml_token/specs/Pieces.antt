-- The parts of a value, each from the front of what is left.
use Rattle.std.specs.Prelude.{◌≡◌, ℕ, ◌==◌, ◌<◌, if◌then◌else◌, Bool, List, [], ◌∷◌, ◌++◌, Option, Some, length, encode_utf8}
use Rattle.pnml_grammar.specs.Values.{lines_ended}
use Rattle.pnml_grammar.specs.Runs.{◌>>=◌, passed, beyond, past}
use Rattle.pnml_grammar.specs.Resolving.{referenced, is_reference_byte, with_front, resolved, literal}
use Rattle.pnml_token.specs.declared.miss.Miss.{Miss}
use Rattle.pnml_token.specs.declared.values.Piece.{Piece}
use Rattle.pnml_token.specs.declared.values.Piece.TheVariants.{Run, Character}
use Rattle.pnml_token.specs.Gives.{Misses}

-- the bytes that a part gives
abbrev pub meant : Piece → List ℕ
meant (Run run) = run.now
meant (Character character) = encode_utf8 character

-- the text's value is these bytes and the value of the rest, which is shorter
abbrev pub IsPieceOf : Bool → List ℕ → List ℕ → List ℕ → Type 0
IsPieceOf spaces text value rest =
    (length rest < length text) × (resolved (literal spaces text) ≡ with_front value (resolved (literal spaces rest)))

-- the text has no value
abbrev pub IsMissOf : Bool → List ℕ → Miss → Type 0
IsMissOf spaces text miss = Misses miss (resolved (literal spaces text))

-- the text with its line ends resolved is these bytes and that of the rest, which is shorter
abbrev pub IsLineOf : List ℕ → List ℕ → List ℕ → Type 0
IsLineOf text value rest = (length rest < length text) × (lines_ended text ≡ value ++ lines_ended rest)

-- what follows a line feed, if one comes first
abbrev pub past_feed : List ℕ → List ℕ
past_feed [] = []
past_feed (byte ∷ bytes) = if byte == 10 then bytes else byte ∷ bytes

-- what a reference represents, and what follows it; `&` came before
unfoldable pub reference_at : List ℕ → Option (List ℕ × List ℕ)
reference_at bytes = do
  rest ← past 59 (beyond is_reference_byte bytes)
  character ← referenced (passed is_reference_byte bytes)
  Some (encode_utf8 character, rest)
