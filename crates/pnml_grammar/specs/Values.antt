-- Values: text whose line ends are one line feed each and whose references are the characters that they
-- represent.
use Rattle.std.specs.Prelude.{◌≢◌, ℕ, Bool, true, false, ◌==◌, ◌||◌, ◌&&◌, if◌then◌else◌, List, [], ◌∷◌, ◌++◌, map, encode_utf8}
use Rattle.pnml_grammar.specs.References.{IsReference}

-- after a carriage return, or not: CR LF and a CR only become LF
abbrev pub lines_ended_after : Bool → List ℕ → List ℕ
lines_ended_after returned [] = []
lines_ended_after returned (byte ∷ bytes) =
    if byte == 13 then 10 ∷ lines_ended_after true bytes
    else (if returned && byte == 10 then lines_ended_after false bytes
    else byte ∷ lines_ended_after false bytes)

-- the text with its line ends resolved (XML 1.0, section 2.11)
abbrev pub lines_ended : List ℕ → List ℕ
lines_ended bytes = lines_ended_after false bytes

-- a tab and a line feed become a space in an attribute's value (XML 1.0, section 3.3.3)
abbrev pub spaced : ℕ → ℕ
spaced byte = if byte == 9 || byte == 10 then 32 else byte

-- the text with each reference resolved, and no other `&` in it. 38 is `&` and 59 is `;`
pub data Denotes : List ℕ → List ℕ → Type 0 where
  nothing : Denotes [] []
  byte : (b : ℕ) (bytes value : List ℕ) → b ≢ 38 → Denotes bytes value → Denotes (b ∷ bytes) (b ∷ value)
  reference : (body : List ℕ) (character : ℕ) (bytes value : List ℕ) → IsReference body character → Denotes bytes value
      → Denotes (38 ∷ (body ++ 59 ∷ bytes)) (encode_utf8 character ++ value)

-- the value of text between markup, and of an attribute
abbrev pub IsTextValue : List ℕ → List ℕ → Type 0
IsTextValue body value = Denotes (lines_ended body) value

abbrev pub IsAttributeValue : List ℕ → List ℕ → Type 0
IsAttributeValue body value = Denotes (map spaced (lines_ended body)) value
