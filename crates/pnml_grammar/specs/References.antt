-- References to characters: the five of XML 1.0, section 4.6, and those by a number.
use Rattle.std.specs.Prelude.{◌≡◌, ℕ, List, ◌∷◌, codes}
use Rattle.std.specs.Str.Parse.{IsNumeral, digits_value}
use Rattle.net_values.specs.Characters.{IsLegalCharacter}

-- one or more digits to the base, of either case, that write the number of a legal character
-- (XML 1.0, section 4.1, Legal Character)
pub record IsNumber (base : ℕ) (digits : List ℕ) (character : ℕ) : Type 0 where
  pub numeral : IsNumeral base digits
  pub value : digits_value base digits ≡ character
  pub legal : IsLegalCharacter character

-- what is between `&` and `;`, and the character that it represents (XML 1.0, productions 66, CharRef,
-- and 68, EntityRef). 35 is `#` and 120 is `x`
pub data IsReference : List ℕ → ℕ → Type 0 where
  less_than : IsReference (codes "lt") 60
  greater_than : IsReference (codes "gt") 62
  ampersand : IsReference (codes "amp") 38
  apostrophe : IsReference (codes "apos") 39
  quotation : IsReference (codes "quot") 34
  decimal : (digits : List ℕ) (character : ℕ) → IsNumber 10 digits character → IsReference (35 ∷ digits) character
  hexadecimal : (digits : List ℕ) (character : ℕ) → IsNumber 16 digits character → IsReference (35 ∷ 120 ∷ digits) character
