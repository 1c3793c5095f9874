use Rattle.std.proofs.Common.{◌≡◌, ◌++◌, ◌∷◌, ◌+◌, ◌∙◌, ℕ, List, [], sym, subst, rules, arith}
use Rattle.std.proofs.lemmas.Bool.{false≢true}
use Rattle.std.proofs.lemmas.List.{get_or_default}
use Rattle.std.proofs.lemmas.Result.{err_from_is_err_and}
use Rattle.incidence.specs.Tables.{matrix_of}
use Rattle.semiflow_elim.specs.Adjacent.{AreJoined}
use Rattle.semiflow_elim.specs.Bases.{in_set}
use Rattle.semiflow_elim.specs.Carried.{AreListed, CarryTheirs}
use Rattle.semiflow_elim.specs.Elimination.{IsPair, row_of}
use Rattle.semiflow_elim.proofs.AdjacentLists.{joined_skip, joined_more}
use Rattle.semiflow_elim.proofs.Carrying.{carry_more}
use Rattle.semiflow_elim.proofs.Jointly.{pair_joint}
use Rattle.semiflow_elim.proofs.Pairs.{read_row, row_nonzero, pair_signs, pair_wide, pair_narrow, pair_combined}
use Rattle.semiflow_elim.proofs.candidates.join_pair.Goals.{then-first-via-then-first, then-first-via-else-first+then-second}
use Rattle.semiflow_elim.proofs.candidates.join_pair.Goals as goal

pub returns-then-first-clause-joined : goal.returns-then-first-clause-joined
returns-then-first-clause-joined c =
    let no : IsPair (matrix_of c.args.step.now.matrix.now) c.args.step.now.column (row_of c.args.step.now.rows.now c.args.i) (row_of c.args.step.now.rows.now c.args.k) → ⊥ =
    λ pair.
    let signs = pair_signs (matrix_of c.args.step.now.matrix.now) c.args.step.now.column c.args.step.now.rows.now c.args.step.now.sums.now c.args.i c.args.k c.requires.step c.requires.first c.requires.second pair in
    let up = signs.0 in
    let down = signs.1 in
    elim c.then-first.branch [
      | then-first-via-then-first w ↦ let sign = w.if-first.true in omega arith
      | then-first-via-else-first+then-second w ↦ let sign = w.if-second.true in omega arith
    ]
    in
    joined_skip (matrix_of c.args.step.now.matrix.now) c.args.step.now.column c.args.step.now.rows.now c.args.joined.now.vectors.items c.args.i c.args.k (λ pair adjacent. no pair) (λ pair. absurd (no pair)) c.requires.joined

pub returns-in_err-refuse_wide-clause-wide : goal.returns-in_err-refuse_wide-clause-wide
returns-in_err-refuse_wide-clause-wide c =
    let p = err_from_is_err_and c.from_residual.result c.from_residual.ensures.1 in
    rw (p.1) (λ is. pair_wide (matrix_of c.args.step.now.matrix.now) c.args.step.now.column c.args.step.now.rows.now c.args.step.now.sums.now c.args.i c.args.k c.index-rows-i.result c.index-rows-k.result c.requires.step c.requires.first c.requires.second (omega arith) (omega arith)
    (read_row c.args.step.now.rows.now c.args.i c.index-rows-i.result c.requires.first c.index-rows-i.is)
    (read_row c.args.step.now.rows.now c.args.k c.index-rows-k.result c.requires.second c.index-rows-k.is)
    (c.in_err-refuse_wide.ensures.wide (search (rules, p.1, p.2, is))))

pub returns-then-not-are_adjacent-clause-joined : goal.returns-then-not-are_adjacent-clause-joined
returns-then-not-are_adjacent-clause-joined c =
    joined_skip (matrix_of c.args.step.now.matrix.now) c.args.step.now.column c.args.step.now.rows.now c.args.joined.now.vectors.items c.args.i c.args.k
    (λ pair adjacent. absurd (false≢true (sym c.if-not-are_adjacent.true ∙ c.are_adjacent.ensures.1 adjacent)))
    (λ pair. pair_narrow (matrix_of c.args.step.now.matrix.now) c.args.step.now.column c.args.step.now.rows.now c.args.step.now.sums.now c.args.i c.args.k c.index-rows-i.result c.index-rows-k.result c.requires.step c.requires.first c.requires.second
    (read_row c.args.step.now.rows.now c.args.i c.index-rows-i.result c.requires.first c.index-rows-i.is)
    (read_row c.args.step.now.rows.now c.args.k c.index-rows-k.result c.requires.second c.index-rows-k.is)
    c.in_ok-refuse_wide.ensures.narrow)
    c.requires.joined

pub combined-requires-clause-nonzero : goal.combined-requires-clause-nonzero
combined-requires-clause-nonzero c =
    row_nonzero (matrix_of c.args.step.now.matrix.now) c.args.step.now.column c.args.step.now.rows.now c.args.step.now.sums.now c.args.i c.index-rows-i-2.result c.requires.step c.requires.first
    (read_row c.args.step.now.rows.now c.args.i c.index-rows-i-2.result c.requires.first c.index-rows-i-2.is)

pub returns-in_err-combined-clause-wide : goal.returns-in_err-combined-clause-wide
returns-in_err-combined-clause-wide c =
    let p = err_from_is_err_and c.from_residual-in_err-combined.result c.from_residual-in_err-combined.ensures.1 in
    rw (p.1) (λ is. pair_wide (matrix_of c.args.step.now.matrix.now) c.args.step.now.column c.args.step.now.rows.now c.args.step.now.sums.now c.args.i c.args.k c.index-rows-i-2.result c.index-rows-k-2.result c.requires.step c.requires.first c.requires.second (omega arith) (omega arith)
    (read_row c.args.step.now.rows.now c.args.i c.index-rows-i-2.result c.requires.first c.index-rows-i-2.is)
    (read_row c.args.step.now.rows.now c.args.k c.index-rows-k-2.result c.requires.second c.index-rows-k-2.is)
    (c.in_err-combined.ensures.wide (search (rules, p.1, p.2, is))))

pub returns-clause-joined : goal.returns-clause-joined
returns-clause-joined c =
    let pushed : c.push.new.self.vectors.items ≡ c.args.joined.now.vectors.items ++ c.in_ok-combined.combined.row ∷ [] = search rules in
    subst (λ (l : List (List ℕ)). AreJoined (matrix_of c.args.step.now.matrix.now) c.args.step.now.column c.args.step.now.rows.now l c.args.i (c.args.k + 1)) (sym pushed)
    (joined_more (matrix_of c.args.step.now.matrix.now) c.args.step.now.column c.args.step.now.rows.now (in_set c.requires.step.taken) c.requires.step.basis c.args.joined.now.vectors.items c.args.i c.args.k c.in_ok-combined.combined.row
    (pair_combined (matrix_of c.args.step.now.matrix.now) c.args.step.now.column c.args.step.now.rows.now c.args.step.now.sums.now c.args.i c.args.k c.index-rows-i-2.result c.index-rows-k-2.result c.in_ok-combined.combined.row c.requires.step c.requires.first c.requires.second (omega arith) (omega arith)
    (read_row c.args.step.now.rows.now c.args.i c.index-rows-i-2.result c.requires.first c.index-rows-i-2.is)
    (read_row c.args.step.now.rows.now c.args.k c.index-rows-k-2.result c.requires.second c.index-rows-k-2.is)
    (c.are_adjacent.ensures.0 c.if-not-are_adjacent.false) c.in_ok-combined.ensures.ok.combined)
    c.requires.joined)

pub returns-clause-carried : goal.returns-clause-carried
returns-clause-carried c =
    let m = matrix_of c.args.step.now.matrix.now in
    let K = in_set c.args.step.now.after.now in
    let vectors : c.push.new.self.vectors.items ≡ c.args.joined.now.vectors.items ++ c.in_ok-combined.combined.row ∷ [] = search rules in
    let sums : c.push.new.self.sums.items ≡ c.args.joined.now.sums.items ++ c.in-Ok.sums ∷ [] = search rules in
    subst (CarryTheirs m K c.push.new.self.vectors.items) (sym sums)
    (subst (λ (l : List (List ℕ)). CarryTheirs m K l (c.args.joined.now.sums.items ++ c.in-Ok.sums ∷ [])) (sym vectors)
    (carry_more m K c.args.joined.now.vectors.items c.args.joined.now.sums.items c.in_ok-combined.combined.row c.in-Ok.sums c.requires.carried c.in-Ok.ensures))

pub merged_sums-requires-clause-first : goal.merged_sums-requires-clause-first
merged_sums-requires-clause-first c =
    let size = c.requires.exact.size in
    let is = c.as_slice.ensures ∙ get_or_default c.args.step.now.carried.now c.args.i c.index-step-i.result [] (omega (arith, c.requires.first)) in
    subst (AreListed (matrix_of c.args.step.now.matrix.now).columns) (sym is) (c.requires.exact.listed c.args.i c.requires.first)

pub merged_sums-requires-clause-second : goal.merged_sums-requires-clause-second
merged_sums-requires-clause-second c =
    let size = c.requires.exact.size in
    let is = c.as_slice-2.ensures ∙ get_or_default c.args.step.now.carried.now c.args.k c.index-step-k.result [] (omega (arith, c.requires.second)) in
    subst (AreListed (matrix_of c.args.step.now.matrix.now).columns) (sym is) (c.requires.exact.listed c.args.k c.requires.second)

pub merged_sums-requires-clause-joint : goal.merged_sums-requires-clause-joint
merged_sums-requires-clause-joint c =
    let size = c.requires.exact.size in
    let step = c.args.step.now in
    let first_is = c.as_slice.ensures ∙ get_or_default step.carried.now c.args.i c.index-step-i.result [] (omega (arith, c.requires.first)) in
    let second_is = c.as_slice-2.ensures ∙ get_or_default step.carried.now c.args.k c.index-step-k.result [] (omega (arith, c.requires.second)) in
    pair_joint (matrix_of step.matrix.now) (in_set step.after.now) step.rows.now step.carried.now c.args.i c.args.k _ _ c.index-rows-i-2.result c.index-rows-k-2.result c.in_ok-combined.combined.row c.in_ok-combined.combined.by c.as_slice.result.now c.as_slice-2.result.now
    c.requires.exact c.requires.first c.requires.second
    (read_row step.rows.now c.args.i c.index-rows-i-2.result c.requires.first c.index-rows-i-2.is)
    (read_row step.rows.now c.args.k c.index-rows-k-2.result c.requires.second c.index-rows-k-2.is)
    first_is second_is (c.requires.step.basis.size c.args.i [] c.requires.first) c.in_ok-combined.ensures.ok
