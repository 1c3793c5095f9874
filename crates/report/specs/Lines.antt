-- The lines of a report. Each ends with a line feed; numbers are decimal without leading zeros.
use Rattle.std.specs.Prelude.{ℕ, List, Bool, true, false, ◌++◌, if◌then◌else◌, codes, decimal}
use Rattle.std.specs.List.{flat_map, join_with_byte}

-- pieces that begin a line, with one space between, or others after what a line begins with, each after a space
abbrev pub spaced : Bool → List (List ℕ) → List ℕ
spaced true pieces = join_with_byte 32 pieces
spaced false pieces = flat_map (λ piece. codes " " ++ piece) pieces

-- a line of pieces
abbrev pub line_of : List (List ℕ) → List ℕ
line_of pieces = spaced true pieces ++ codes "\n"

-- a word and a number
unfoldable pub count_line : List ℕ → ℕ → List ℕ
count_line word count = word ++ codes " " ++ decimal count ++ codes "\n"

-- a word and yes or no
unfoldable pub answer_line : List ℕ → Bool → List ℕ
answer_line word answer = word ++ (if answer then codes " yes\n" else codes " no\n")
