-- The texts of the tasks.
use Rattle.std.specs.Prelude.{ℕ, List, Bool, Option, None, Some, is_some, count_by, ◌++◌, codes, decimal, length, map, filter, nat_lt, slice_index}
use Rattle.std.specs.List.{flat_map, range_with_len}
use Rattle.bounds.specs.declared.place_bound.PlaceBound.{PlaceBound}
use Rattle.bounds.specs.Listed.{kept_at, bound_of}
use Rattle.net_class.specs.declared.membership.Class.{Class}
use Rattle.net_values.specs.PlaceSets.{has}
use Rattle.report.specs.Lines.{line_of, count_line, answer_line}

-- `check`: how many places, transitions and arcs the net has
unfoldable pub check_text : ℕ → ℕ → ℕ → List ℕ
check_text places transitions arcs =
    codes "places " ++ decimal places ++ codes " transitions " ++ decimal transitions ++ codes " arcs " ++ decimal arcs ++ codes "\n"

-- `class`: a line for each class of nets
unfoldable pub class_text : Class → List ℕ
class_text class =
    answer_line (codes "ordinary") class.ordinary
    ++ answer_line (codes "state-machine") class.state_machine
    ++ answer_line (codes "marked-graph") class.marked_graph
    ++ answer_line (codes "free-choice") class.free_choice

-- the numbers below the bound that pass the test, ascending
abbrev pub passing : (ℕ → Bool) → ℕ → List ℕ
passing test bound = filter test (range_with_len 0 bound)

-- an entry of a semiflow, with the id of its node
unfoldable pub term : ℕ → List ℕ → List ℕ
term entry id = decimal entry ++ codes "*" ++ id

-- the positive entries of a semiflow in order
abbrev pub terms : (ℕ → List ℕ) → List ℕ → List (List ℕ)
terms ids row = map (λ i. term (slice_index row i) (ids i)) (passing (λ i. nat_lt 0 (slice_index row i)) (length row))

-- the ids of the places of a set in order
abbrev pub members : (ℕ → List ℕ) → List Bool → List (List ℕ)
members ids set = map ids (passing (has set) (length set))

abbrev pub semiflow_line : (ℕ → List ℕ) → List ℕ → List ℕ
semiflow_line ids row = line_of (terms ids row)

abbrev pub set_line : (ℕ → List ℕ) → List Bool → List ℕ
set_line ids set = line_of (members ids set)

-- `places`, `transitions`: a line for each semiflow, and how many there are
unfoldable pub semiflows_text : (ℕ → List ℕ) → List (List ℕ) → List ℕ
semiflows_text ids rows = flat_map (semiflow_line ids) rows ++ count_line (codes "semiflows") (length rows)

-- `siphons`, `traps`: a line for each set, and how many there are
unfoldable pub sets_text : List ℕ → (ℕ → List ℕ) → List (List Bool) → List ℕ
sets_text word ids sets = flat_map (set_line ids) sets ++ count_line word (length sets)

-- the bound of a place, or none
abbrev pub bound_word : Option ℕ → List ℕ
bound_word None = codes "none"
bound_word (Some bound) = decimal bound

unfoldable pub bound_line : List ℕ → Option ℕ → List ℕ
bound_line id bound = id ++ codes " " ++ bound_word bound ++ codes "\n"

-- the lines of the first n places
abbrev pub bound_lines : (ℕ → List ℕ) → List (Option PlaceBound) → ℕ → List ℕ
bound_lines ids bounds n = flat_map (λ p. bound_line (ids p) (bound_of (kept_at bounds p))) (range_with_len 0 n)

-- `bounds`: a line for each place, and how many of the places have a bound
unfoldable pub bounds_text : (ℕ → List ℕ) → List (Option PlaceBound) → List ℕ
bounds_text ids bounds =
    bound_lines ids bounds (length bounds)
    ++ codes "covered " ++ decimal (count_by is_some bounds) ++ codes " of " ++ decimal (length bounds) ++ codes "\n"
