-- The text of `sample`: eight lines, each a word and a value.
use Rattle.std.specs.Prelude.{ℕ, ℤ, List, ◌++◌, codes}
use Rattle.std.specs.Fmt.{signed_decimal}
use Rattle.report.specs.declared.summary.Summary.{Summary}
use Rattle.report.specs.Lines.{answer_line, count_line}

-- how large the net is
unfoldable pub sizes_lines : Summary → List ℕ
sizes_lines summary =
    count_line (codes "places") summary.places
    ++ count_line (codes "transitions") summary.transitions
    ++ count_line (codes "arcs") summary.arcs

-- how long the lists are
unfoldable pub findings_lines : Summary → List ℕ
findings_lines summary =
    count_line (codes "place-semiflows") summary.place_semiflows
    ++ count_line (codes "transition-semiflows") summary.transition_semiflows
    ++ count_line (codes "siphons") summary.siphons

-- a word and a value
unfoldable pub value_line : List ℕ → List ℕ → List ℕ
value_line word value = word ++ codes " " ++ value ++ codes "\n"

-- the greatest bound of a place
unfoldable pub bound_line : ℤ → List ℕ
bound_line bound = value_line (codes "greatest-bound") (signed_decimal bound)

-- all of them
unfoldable pub summary_text : Summary → List ℕ
summary_text summary =
    sizes_lines summary ++ findings_lines summary ++ bound_line summary.greatest_bound ++ answer_line (codes "commoner") summary.commoner
