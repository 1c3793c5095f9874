-- Names: XML 1.0's, with every character above U+007F allowed at each place.
use Rattle.std.specs.Prelude.{◌≡◌, ℕ, Bool, true, ◌==◌, ◌||◌, nat_le, List, [], ◌∷◌}
use Rattle.pnml_grammar.specs.Characters.{Each, is_between}

-- an ASCII letter, `_`, `:` or a byte of a character above U+007F (XML 1.0, production 4, NameStartChar)
abbrev pub is_name_start : ℕ → Bool
is_name_start byte = is_between 97 122 byte || is_between 65 90 byte || byte == 95 || byte == 58 || nat_le 128 byte

-- also an ASCII digit, `-` and `.` (XML 1.0, production 4a, NameChar)
abbrev pub is_name_byte : ℕ → Bool
is_name_byte byte = is_name_start byte || is_between 48 57 byte || byte == 45 || byte == 46

-- a name (XML 1.0, production 5, Name)
abbrev pub IsName : List ℕ → Type 0
IsName [] = ⊥
IsName (byte ∷ bytes) = (is_name_start byte ≡ true) × Each is_name_byte bytes
