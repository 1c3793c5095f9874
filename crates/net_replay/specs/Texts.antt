-- The text of `replay`.
use Rattle.std.specs.Prelude.{ℕ, List, ◌++◌, codes, length, slice_index}
use Rattle.std.specs.List.{flat_map, range_with_len}
use Rattle.report.specs.Lines.{count_line, answer_line}
use Rattle.net_replay.specs.declared.replayed.Replay.{Replay}

-- the lines of the first n places: each has its id and its number of tokens
abbrev pub token_lines : (ℕ → List ℕ) → List ℕ → ℕ → List ℕ
token_lines ids marking n = flat_map (λ p. count_line (ids p) (slice_index marking p)) (range_with_len 0 n)

-- a line for each place, how many transitions fired, and whether the counts are a semiflow of transitions
unfoldable pub replay_text : (ℕ → List ℕ) → List ℕ → Replay → List ℕ
replay_text ids ts replay =
    token_lines ids replay.marking (length replay.marking)
    ++ count_line (codes "fired") (length ts)
    ++ answer_line (codes "t-semiflow") replay.semiflow
