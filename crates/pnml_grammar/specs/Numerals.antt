-- The numbers of initial markings and inscriptions.
use Rattle.std.specs.Prelude.{◌≡◌, ◌↔◌, ℕ, ◌^◌, ◌≤◌, ◌<◌, Bool, false, ◌&&◌, nat_le, nat_lt, if◌then◌else◌, List, ◌++◌, Option, Some, None, length}
use Rattle.std.specs.List.{list_all}
use Rattle.std.specs.Str.Parse.{digits_value}
use Rattle.pnml_grammar.specs.declared.element.Context.{Context}
use Rattle.pnml_grammar.specs.declared.element.Context.TheVariants as contexts
use Rattle.pnml_grammar.specs.Characters.{Each, is_between, is_space}
use Rattle.pnml_grammar.specs.Runs.{passed, beyond}

abbrev pub is_digit : ℕ → Bool
is_digit byte = is_between 48 57 byte

abbrev pub is_white : List ℕ → Bool
is_white bytes = list_all is_space bytes

-- ---- what a number is

-- one or more decimal digits between white space, and the number that they write
pub record IsNumeral (bytes : List ℕ) (number : ℕ) : Type 0 where
  pub before : List ℕ
  pub digits : List ℕ
  pub after : List ℕ
  pub spelling : bytes ≡ before ++ (digits ++ after)
  pub space : Each is_space before
  pub digit : Each is_digit digits
  pub some : 1 ≤ length digits
  pub trailing : Each is_space after
  pub value : number ≡ digits_value 10 digits

-- an initial marking is below 2^64, and so is an inscription, which is at least 1
abbrev pub IsInRange : Context → ℕ → Type 0
IsInRange contexts.MarkingText number = number < 2 ^ 64
IsInRange contexts.WeightText number = (1 ≤ number) × (number < 2 ^ 64)
IsInRange _ number = ⊥

-- ---- how it is read

unfoldable pub numeral : List ℕ → Option ℕ
numeral bytes =
    let digits = passed is_digit (beyond is_space bytes) in
    if nat_le 1 (length digits) && is_white (beyond is_digit (beyond is_space bytes)) then Some (digits_value 10 digits) else None

abbrev pub is_in_range : Context → ℕ → Bool
is_in_range contexts.MarkingText number = nat_lt number (2 ^ 64)
is_in_range contexts.WeightText number = nat_le 1 number && nat_lt number (2 ^ 64)
is_in_range _ number = false

abbrev pub number_if_any : Context → Option ℕ → Option ℕ
number_if_any context None = None
number_if_any context (Some number) = if is_in_range context number then Some number else None

unfoldable pub number_in : Context → List ℕ → Option ℕ
number_in context bytes = number_if_any context (numeral bytes)

-- the number that is read in a text is that of its numeral, in range, and there is one where there is such a numeral
abbrev pub AreRead : Type 0
AreRead =
    (context : Context) (bytes : List ℕ) (number : ℕ)
    → (number_in context bytes ≡ Some number) ↔ (IsNumeral bytes number × IsInRange context number)
