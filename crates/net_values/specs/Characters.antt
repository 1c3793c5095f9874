-- Legal characters, and the values of ids and names that are made of them.
use Rattle.std.specs.Prelude.{◌≡◌, ◌≢◌, ℕ, ◌≤◌, ◌<◌, ◌⊎◌, List, length}
use Rattle.std.specs.List.{AllByRecursion}
use Rattle.std.specs.Str.{encode_utf8_all}
use Rattle.net_values.specs.declared.limits.TheConstants.{MAX_ID_BYTES, MAX_NAME_BYTES}

-- a number from low to high
abbrev pub IsBetween : ℕ → ℕ → ℕ → Type 0
IsBetween low high n = (low ≤ n) × (n ≤ high)

-- a legal character: tab, line feed, carriage return, or from the space on, without the surrogates and
-- the last two of the basic plane (XML 1.0, production 2, Char)
abbrev pub IsLegalCharacter : ℕ → Type 0
IsLegalCharacter c =
    (c ≡ 0x9) ⊎ ((c ≡ 0xA) ⊎ ((c ≡ 0xD) ⊎ (IsBetween 0x20 0xD7FF c ⊎ (IsBetween 0xE000 0xFFFD c ⊎ IsBetween 0x1_0000 0x10_FFFF c))))

-- the bytes are the UTF-8 of characters that have the property
abbrev pub IsTextOf : (ℕ → Type 0) → List ℕ → Type 0
IsTextOf Property bytes = (characters : List ℕ) × AllByRecursion Property characters × (encode_utf8_all characters ≡ bytes)

-- a text of legal characters
abbrev pub IsLegalText : List ℕ → Type 0
IsLegalText = IsTextOf IsLegalCharacter

-- a character that an id may have: legal, no space, no control character of ASCII
abbrev pub IsIdCharacter : ℕ → Type 0
IsIdCharacter c = IsLegalCharacter c × (0x20 < c) × (c ≢ 0x7F)

-- a value of id, source, target or ref: 1 to MAX_ID_BYTES bytes
pub record IsId (bytes : List ℕ) : Type 0 where
  pub characters : IsTextOf IsIdCharacter bytes
  pub nonempty : 1 ≤ length bytes
  pub short : length bytes ≤ MAX_ID_BYTES

-- the value of a name: at most MAX_NAME_BYTES bytes
pub record IsNameValue (bytes : List ℕ) : Type 0 where
  pub characters : IsLegalText bytes
  pub short : length bytes ≤ MAX_NAME_BYTES
