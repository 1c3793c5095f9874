-- The lines of places grow by one place at a time.
use Rattle.std.proofs.Common.{◌≡◌, ℕ, ◌+◌, List, ◌++◌, slice_index, sym, ap, ◌∙◌, append_assoc}
use Rattle.report.specs.Lines.{count_line}
use Rattle.report.proofs.BoundLines.{lines_more}
use Rattle.net_replay.specs.Texts.{token_lines}

-- the line of the next place, after those so far
pub one_more : (ids : ℕ → List ℕ) (marking : List ℕ) (n : ℕ) (old mid new id : List ℕ) (count : ℕ)
    → mid ≡ old ++ token_lines ids marking n → id ≡ ids n → count ≡ slice_index marking n → new ≡ mid ++ count_line id count
    → new ≡ old ++ token_lines ids marking (n + 1)
one_more ids marking n old mid new id count before id_is count_is grown =
    grown ∙ ap (λ (bytes : List ℕ). bytes ++ count_line id count) before ∙ append_assoc old (token_lines ids marking n) (count_line id count)
    ∙ rw (id_is, count_is) (ap (λ (bytes : List ℕ). old ++ bytes) (sym (lines_more (λ p. count_line (ids p) (slice_index marking p)) n)))
