-- How many of the first places are covered, place by place.
use Rattle.std.proofs.Common.{◌≡◌, sym, ap, ◌∙◌, ℕ, ◌+◌, ◌≤◌, Bool, cond, List, arith}
use Rattle.std.specs.Prelude.{count_by}
use Rattle.std.specs.List.{range_with_len}
use Rattle.std.proofs.lemmas.List.FromFn.{sum_by-map-range_with_len_more, length-range_with_len}
use Rattle.std.proofs.lemmas.List.Sums.{count_by-le-length}
use Rattle.report.proofs.Pieces.{range_itself}
use Rattle.sub_semiflow.specs.Texts.{is_covered, covered_below}

pub covered_more : (rows : List (List ℕ)) (n : ℕ) → covered_below rows (n + 1) ≡ covered_below rows n + cond (is_covered rows n) 1 0
covered_more rows n =
    ap (λ (ns : List ℕ). count_by (is_covered rows) ns) (sym (range_itself 0 (n + 1)))
    ∙ sum_by-map-range_with_len_more (λ p. cond (is_covered rows p) 1 0) (λ (k : ℕ). k) 0 n n (omega arith)
    ∙ ap (λ (ns : List ℕ). count_by (is_covered rows) ns + cond (is_covered rows n) 1 0) (range_itself 0 n)

pub few_covered : (rows : List (List ℕ)) (n : ℕ) → covered_below rows n ≤ n
few_covered rows n =
    let few = count_by-le-length (is_covered rows) (range_with_len 0 n) in
    let size = length-range_with_len 0 n in
    omega (arith, few, size)

pub counted_more : (rows : List (List ℕ)) (n old new : ℕ) (test : Bool) → old ≡ covered_below rows n → test ≡ is_covered rows n → new ≡ old + cond test 1 0 → new ≡ covered_below rows (n + 1)
counted_more rows n old new test before is grown =
    grown ∙ ap (λ k. k + cond test 1 0) before ∙ ap (λ b. covered_below rows n + cond b 1 0) is ∙ sym (covered_more rows n)
