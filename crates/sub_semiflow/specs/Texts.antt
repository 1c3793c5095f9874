-- The text of `sub`.
use Rattle.std.specs.Prelude.{ℕ, List, Bool, ◌++◌, codes, decimal, length, nat_lt, slice_index, count_by}
use Rattle.std.specs.List.{flat_map, range_with_len, list_any}
use Rattle.report.specs.Lines.{count_line}
use Rattle.report.specs.Texts.{semiflow_line}

-- some vector is positive at the place
abbrev pub is_covered : List (List ℕ) → ℕ → Bool
is_covered rows p = list_any (λ row. nat_lt 0 (slice_index row p)) rows

-- how many of the first n places are covered
abbrev pub covered_below : List (List ℕ) → ℕ → ℕ
covered_below rows n = count_by (is_covered rows) (range_with_len 0 n)

unfoldable pub bounded_line : ℕ → ℕ → List ℕ
bounded_line count places = codes "structurally bounded " ++ decimal count ++ codes " of " ++ decimal places ++ codes "\n"

-- a line for each vector, how many there are, and how many of the places are covered
unfoldable pub sub_text : (ℕ → List ℕ) → ℕ → List (List ℕ) → List ℕ
sub_text ids places rows =
    flat_map (semiflow_line ids) rows ++ count_line (codes "sub-semiflows") (length rows) ++ bounded_line (covered_below rows places) places
