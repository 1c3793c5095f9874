-- How the words of a line are read: cut at each separator, numbers by their value, lists word by word.
use Rattle.std.specs.Prelude.{ℕ, ◌+◌, ◌==◌, ◌&&◌, if◌then◌else◌, nat_le, nat_lt, bytes_eq, List, [], ◌∷◌, ◌++◌, Option, Some, None, decimal}
use Rattle.std.specs.Option.{option_and_then}
use Rattle.std.specs.Str.Parse.{digits_value}

-- the bytes before the first separator, and those from it on
abbrev pub before : ℕ → List ℕ → List ℕ
before separator [] = []
before separator (byte ∷ bytes) = if byte == separator then [] else byte ∷ before separator bytes

abbrev pub from_first : ℕ → List ℕ → List ℕ
from_first separator [] = []
from_first separator (byte ∷ bytes) = if byte == separator then byte ∷ bytes else from_first separator bytes

-- what is before the first separator, and after each one up to the next
abbrev pub cut : ℕ → List ℕ → List ℕ × List (List ℕ)
cut separator [] = ([], [])
cut separator (byte ∷ bytes) =
    if byte == separator then ([], (cut separator bytes).0 ∷ (cut separator bytes).1) else (byte ∷ (cut separator bytes).0, (cut separator bytes).1)

-- the words of what begins with a space
abbrev pub words_in : List ℕ → List (List ℕ)
words_in [] = []
words_in (byte ∷ bytes) = (cut 32 bytes).0 ∷ (cut 32 bytes).1

-- the number of a decimal text, where it is one from the least to below the limit
unfoldable pub number_in : ℕ → ℕ → List ℕ → Option ℕ
number_in least limit text =
    if (nat_le least (digits_value 10 text) && nat_lt (digits_value 10 text) limit) && bytes_eq text (decimal (digits_value 10 text)) then Some (digits_value 10 text) else None

-- the things that the words spell, after those found so far; their keys ascend from the least
abbrev pub listed : {X : Type 0} → (List ℕ → Option X) → (X → ℕ) → ℕ → List X → List (List ℕ) → Option (List X)
listed parsed key least found [] = Some found
listed parsed key least found (word ∷ words) =
    option_and_then (λ x. if nat_le least (key x) then listed parsed key (key x + 1) (found ++ x ∷ []) words else None) (parsed word)

-- a list, where it isn't empty
abbrev pub some_of : {X : Type 0} → List X → Option (List X)
some_of [] = None
some_of (x ∷ xs) = Some (x ∷ xs)
