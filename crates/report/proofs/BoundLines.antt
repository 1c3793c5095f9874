-- The lines of places grow by one place at a time.
use Rattle.std.proofs.Common.{◌≡◌, ℕ, ◌+◌, List, [], ◌∷◌, ◌++◌, sym, ap, ◌∙◌, arith, append-nil, append_assoc}
use Rattle.std.specs.Prelude.{Option}
use Rattle.std.specs.List.{flat_map, range_with_len}
use Rattle.std.proofs.lemmas.Grind.{flat_map-append}
use Rattle.std.proofs.lemmas.List.FromFn.{map-range_with_len_more}
use Rattle.bounds.specs.declared.place_bound.PlaceBound.{PlaceBound}
use Rattle.bounds.specs.Listed.{kept_at, bound_of}
use Rattle.report.specs.Texts.{bound_line, bound_lines}
use Rattle.report.proofs.Pieces.{range_itself}

-- the lines of numbers below a bound grow by one
pub lines_more : (line : ℕ → List ℕ) (n : ℕ) → flat_map line (range_with_len 0 (n + 1)) ≡ flat_map line (range_with_len 0 n) ++ line n
lines_more line n =
    ap (flat_map line) (sym (range_itself 0 (n + 1)) ∙ map-range_with_len_more (λ k. k) 0 n n (omega arith) ∙ ap (λ (numbers : List ℕ). numbers ++ n ∷ []) (range_itself 0 n))
    ∙ flat_map-append line (range_with_len 0 n) (n ∷ []) ∙ ap (λ (last : List ℕ). flat_map line (range_with_len 0 n) ++ last) (append-nil (line n))

bound_lines_more : (ids : ℕ → List ℕ) (bounds : List (Option PlaceBound)) (n : ℕ)
    → bound_lines ids bounds (n + 1) ≡ bound_lines ids bounds n ++ bound_line (ids n) (bound_of (kept_at bounds n))
bound_lines_more ids bounds n = lines_more (λ p. bound_line (ids p) (bound_of (kept_at bounds p))) n

-- the line of the next place, after those so far
pub one_more : (ids : ℕ → List ℕ) (bounds : List (Option PlaceBound)) (n : ℕ) (old mid new id : List ℕ) (bound : Option ℕ)
    → mid ≡ old ++ bound_lines ids bounds n → id ≡ ids n → bound ≡ bound_of (kept_at bounds n) → new ≡ mid ++ bound_line id bound
    → new ≡ old ++ bound_lines ids bounds (n + 1)
one_more ids bounds n old mid new id bound before id_is bound_is grown =
    let line = bound_line (ids n) (bound_of (kept_at bounds n)) in
    grown ∙ ap (λ (bytes : List ℕ). bytes ++ bound_line id bound) before ∙ append_assoc old (bound_lines ids bounds n) (bound_line id bound)
    ∙ rw (id_is, bound_is) (ap (λ (bytes : List ℕ). old ++ bytes) (sym (bound_lines_more ids bounds n)))
