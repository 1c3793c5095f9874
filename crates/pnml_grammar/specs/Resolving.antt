-- Resolving references and line ends from the front.
use Rattle.std.specs.Prelude.{ℕ, Bool, ◌==◌, ◌||◌, ◌&&◌, ◌+◌, ◌*◌, nat_le, nat_lt, if◌then◌else◌, List, [], ◌∷◌, ◌++◌, Option, Some, None, map, codes, bytes_eq, encode_utf8}
use Rattle.std.specs.Char.{digit_value}
use Rattle.std.specs.Str.{is_utf8}
use Rattle.pnml_grammar.specs.Characters.{is_between}
use Rattle.pnml_grammar.specs.Values.{lines_ended, spaced}
use Rattle.pnml_grammar.specs.Runs.{◌>>=◌}

-- `IsLegalCharacter` of net_values as a test
abbrev pub is_legal_character : ℕ → Bool
is_legal_character c =
    c == 0x9 || c == 0xA || c == 0xD || is_between 0x20 0xD7FF c || is_between 0xE000 0xFFFD c || is_between 0x1_0000 0x10_FFFF c

-- the legal character whose number these digits write after those of a number
abbrev pub number_after : ℕ → ℕ → List ℕ → Option ℕ
number_after base number [] = if is_legal_character number then Some number else None
number_after base number (digit ∷ digits) =
    if nat_lt (digit_value digit) base && nat_le (number * base + digit_value digit) 0x10_FFFF
    then number_after base (number * base + digit_value digit) digits else None

unfoldable pub character_numbered : ℕ → List ℕ → Option ℕ
character_numbered base [] = None
character_numbered base (digit ∷ digits) = number_after base 0 (digit ∷ digits)

unfoldable pub character_named : List ℕ → Option ℕ
character_named name =
    if bytes_eq name (codes "lt") then Some 60
    else (if bytes_eq name (codes "gt") then Some 62
    else (if bytes_eq name (codes "amp") then Some 38
    else (if bytes_eq name (codes "apos") then Some 39
    else (if bytes_eq name (codes "quot") then Some 34
    else None))))

-- the character by what is between `&` and `;`; after `#`; at all
unfoldable pub character_after_number_sign : List ℕ → Option ℕ
character_after_number_sign [] = None
character_after_number_sign (byte ∷ bytes) =
    if byte == 120 then character_numbered 16 bytes else character_numbered 10 (byte ∷ bytes)

unfoldable pub referenced : List ℕ → Option ℕ
referenced [] = None
referenced (byte ∷ bytes) = if byte == 35 then character_after_number_sign bytes else character_named (byte ∷ bytes)

-- a letter or digit of ASCII, or `#`
abbrev pub is_reference_byte : ℕ → Bool
is_reference_byte byte = is_between 97 122 byte || is_between 65 90 byte || is_between 48 57 byte || byte == 35

abbrev pub with_front : List ℕ → Option (List ℕ) → Option (List ℕ)
with_front front value = value >>= λ bytes. Some (front ++ bytes)

-- the value of a text, and of one that follows `&` and these bytes
abbrev mutual
  pub resolved : List ℕ → Option (List ℕ)
  resolved [] = Some []
  resolved (byte ∷ bytes) = if byte == 38 then resolved_after [] bytes else with_front (byte ∷ []) (resolved bytes)

  pub resolved_after : List ℕ → List ℕ → Option (List ℕ)
  resolved_after body [] = None
  resolved_after body (byte ∷ bytes) =
      if byte == 59 then referenced body >>= (λ character. with_front (encode_utf8 character) (resolved bytes))
      else (if is_reference_byte byte then resolved_after (body ++ byte ∷ []) bytes else None)

-- the text with its line ends resolved, and with spaces for tabs and line feeds where it is in an attribute
abbrev pub literal : Bool → List ℕ → List ℕ
literal spaces bytes = if spaces then map spaced (lines_ended bytes) else lines_ended bytes

-- the bytes, where they are UTF-8
unfoldable pub text_of : List ℕ → Option (List ℕ)
text_of bytes = if is_utf8 bytes then Some bytes else None

-- the value of what is in an attribute or between markup
unfoldable pub value_of : Bool → List ℕ → Option (List ℕ)
value_of spaces bytes = text_of bytes >>= λ text. resolved (literal spaces text)
