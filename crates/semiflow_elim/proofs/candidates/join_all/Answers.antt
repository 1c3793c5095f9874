use Rattle.std.proofs.Common.{◌≡◌, sym, ap, List, ℕ, ◌+◌, ◌<◌, ◌≤◌, [], length, slice_index, subst, rules, arith}
use Rattle.std.proofs.lemmas.List.{get_or_default, get_or_past, take_all}
use Rattle.std.proofs.lemmas.Result.{err_from_is_err_and}
use Rattle.incidence.specs.Tables.{matrix_of}
use Rattle.semiflow_elim.specs.Adjacent.{AreJoined}
use Rattle.semiflow_elim.specs.Bases.{in_set}
use Rattle.semiflow_elim.specs.Candidates.{all_offers}
use Rattle.semiflow_elim.specs.Carried.{CarryTheirs}
use Rattle.semiflow_elim.specs.Numbers.{gains_at, next_of}
use Rattle.semiflow_elim.proofs.AdjacentLists.{joined_none}
use Rattle.semiflow_elim.proofs.Carrying.{carry_none}
use Rattle.semiflow_elim.proofs.Numbering.{next_after, next_within}
use Rattle.semiflow_elim.proofs.Offers.{all_offers_more}
use Rattle.semiflow_elim.proofs.Passing.{rows_before, rows_after, all_offers_to}
use Rattle.semiflow_elim.proofs.candidates.join_all.Goals as goal

pub loop-p-init : goal.loop-p-init
loop-p-init c =
    let step = c.args.step.now in
    let m = matrix_of step.matrix.now in
    let none : c.new-joined.result.vectors.items ≡ [] = c.new-joined.ensures.vectors in
    let no_sums : c.new-joined.result.sums.items ≡ [] = c.new-joined.ensures.sums in
    let size = ap length none in
    let start : AreJoined m step.column step.rows.now c.new-joined.result.vectors.items 0 0 = subst (λ (l : List (List ℕ)). AreJoined m step.column step.rows.now l 0 0) (sym none) (joined_none m step.column step.rows.now) in
    record {
      joined = rows_before m step.column step.rows.now step.sums.now step.positive.now c.requires.step c.requires.positive c.new-joined.result.vectors.items start;
      carried = subst (CarryTheirs m (in_set step.after.now) c.new-joined.result.vectors.items) (sym no_sums) (subst (λ (l : List (List ℕ)). CarryTheirs m (in_set step.after.now) l []) (sym none) (carry_none m (in_set step.after.now)));
      count = omega arith;
    }

pub loop-p-preserved : goal.loop-p-preserved
loop-p-preserved c =
    let step = c.args.step.now in
    let numbers = step.positive.now in
    let n = length step.rows.now in
    let p = c.loop-p.p in
    let i = slice_index numbers p in
    let inside : p < length numbers = c.loop-p-test.true in
    let read : next_of numbers n p ≡ i = get_or_default numbers p n 0 inside in
    let size = c.requires.step.size in
    let within = c.requires.positive.within p 0 inside in
    let after = next_after (gains_at step.sums.now) n numbers c.requires.positive p inside in
    let most = next_within (gains_at step.sums.now) n numbers c.requires.positive (p + 1) in
    let before : length c.loop-p.joined.vectors.items ≤ all_offers step.sums.now i = subst (λ (j : ℕ). length c.loop-p.joined.vectors.items ≤ all_offers step.sums.now j) read c.loop-p.invariant.count in
    let more = all_offers_more step.sums.now i n (length c.loop-p.joined.vectors.items) (length c.join_pairs.new.joined.vectors.items) size (omega arith) before c.in_ok-join_pairs.ensures.count in
    let along = all_offers_to step.sums.now (i + 1) (next_of numbers n (p + 1)) (omega arith) (omega arith) in
    record {
      joined = rows_after (matrix_of step.matrix.now) step.column step.rows.now step.sums.now numbers c.requires.step c.requires.positive c.join_pairs.new.joined.vectors.items p inside c.in_ok-join_pairs.ensures.joined;
      carried = c.in_ok-join_pairs.ensures.carried;
      count = omega arith;
    }

pub returns-in_err-join_pairs-clause-wide : goal.returns-in_err-join_pairs-clause-wide
returns-in_err-join_pairs-clause-wide c =
    let p = err_from_is_err_and c.from_residual.result c.from_residual.ensures.1 in
    let within = c.requires.positive.within c.loop-p.p 0 c.loop-p-test.true in
    rw (p.1) (λ is.
    let wide = c.in_err-join_pairs.ensures.wide (search (rules, p.1, p.2, is)) in
    (slice_index c.args.step.now.positive.now c.loop-p.p, wide.0, within, wide.1, wide.2))

pub returns-clause-joined : goal.returns-clause-joined
returns-clause-joined c =
    let step = c.args.step.now in
    let n = length step.rows.now in
    let end : next_of step.positive.now n c.loop-p.p ≡ n = get_or_past step.positive.now c.loop-p.p n (let done = c.loop-p-test.false in omega arith) in
    subst (λ (j : ℕ). AreJoined (matrix_of step.matrix.now) step.column step.rows.now c.loop-p.joined.vectors.items j 0) end c.loop-p.invariant.joined

pub returns-clause-count : goal.returns-clause-count
returns-clause-count c =
    let step = c.args.step.now in
    let n = length step.rows.now in
    let end : next_of step.positive.now n c.loop-p.p ≡ n = get_or_past step.positive.now c.loop-p.p n (let done = c.loop-p-test.false in omega arith) in
    subst (λ (j : ℕ). length c.loop-p.joined.vectors.items ≤ all_offers step.sums.now j) end c.loop-p.invariant.count

pub join_pairs-requires-clause-joined : goal.join_pairs-requires-clause-joined
join_pairs-requires-clause-joined c =
    let step = c.args.step.now in
    let n = length step.rows.now in
    let read : next_of step.positive.now n c.loop-p.p ≡ slice_index step.positive.now c.loop-p.p = get_or_default step.positive.now c.loop-p.p n 0 c.loop-p-test.true in
    subst (λ (j : ℕ). AreJoined (matrix_of step.matrix.now) step.column step.rows.now c.loop-p.joined.vectors.items j 0) read c.loop-p.invariant.joined

pub join_pairs-requires-clause-first : goal.join_pairs-requires-clause-first
join_pairs-requires-clause-first c = c.requires.positive.within c.loop-p.p 0 c.loop-p-test.true
