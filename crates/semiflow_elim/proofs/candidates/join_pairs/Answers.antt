use Rattle.std.proofs.Common.{◌≡◌, ℕ, ◌+◌, ◌<◌, ◌≤◌, length, slice_index, subst, rules, arith}
use Rattle.std.proofs.lemmas.List.{get_or_default, get_or_past}
use Rattle.std.proofs.lemmas.Result.{err_from_is_err_and}
use Rattle.incidence.specs.Tables.{matrix_of}
use Rattle.semiflow_elim.specs.Adjacent.{AreJoined}
use Rattle.semiflow_elim.specs.Candidates.{row_offers, sums_of}
use Rattle.semiflow_elim.specs.Numbers.{loses_at, next_of}
use Rattle.semiflow_elim.proofs.Numbering.{next_after, next_within}
use Rattle.semiflow_elim.proofs.Offers.{row_offers_more}
use Rattle.semiflow_elim.proofs.AdjacentLists.{joined_next}
use Rattle.semiflow_elim.proofs.Passing.{pairs_before, pairs_after, row_offers_to}
use Rattle.semiflow_elim.proofs.candidates.join_pairs.Goals as goal

pub loop-q-init : goal.loop-q-init
loop-q-init c =
    let step = c.args.step.now in
    record {
      joined = pairs_before (matrix_of step.matrix.now) step.column step.rows.now step.sums.now step.negative.now c.requires.step c.requires.negative c.args.joined.now.vectors.items c.args.i c.requires.first c.requires.joined;
      carried = c.requires.carried;
      count = omega arith;
    }

pub loop-q-preserved : goal.loop-q-preserved
loop-q-preserved c =
    let step = c.args.step.now in
    let numbers = step.negative.now in
    let n = length step.rows.now in
    let q = c.loop-q.q in
    let k = slice_index numbers q in
    let first = sums_of step.sums.now c.args.i in
    let start = length c.args.joined.now.vectors.items in
    let inside : q < length numbers = c.loop-q-test.true in
    let read : next_of numbers n q ≡ k = get_or_default numbers q n 0 inside in
    let size = c.requires.step.size in
    let within = c.requires.negative.within q 0 inside in
    let after = next_after (loses_at step.sums.now) n numbers c.requires.negative q inside in
    let most = next_within (loses_at step.sums.now) n numbers c.requires.negative (q + 1) in
    let count = c.loop-q.invariant.count in
    let before : length c.loop-q.joined.vectors.items ≤ start + row_offers first step.sums.now k = subst (λ (j : ℕ). length c.loop-q.joined.vectors.items ≤ start + row_offers first step.sums.now j) read count in
    let more = row_offers_more first step.sums.now k start (length c.loop-q.joined.vectors.items) (length c.join_pair.new.joined.vectors.items) (omega arith) before c.in_ok-join_pair.ensures.count in
    let along = row_offers_to first step.sums.now start (k + 1) (next_of numbers n (q + 1)) (omega arith) (omega arith) in
    record {
      joined = pairs_after (matrix_of step.matrix.now) step.column step.rows.now step.sums.now numbers c.requires.step c.requires.negative c.join_pair.new.joined.vectors.items c.args.i q inside c.in_ok-join_pair.ensures.joined;
      carried = c.in_ok-join_pair.ensures.carried;
      count = omega arith;
    }

pub returns-in_err-join_pair-clause-wide : goal.returns-in_err-join_pair-clause-wide
returns-in_err-join_pair-clause-wide c =
    let p = err_from_is_err_and c.from_residual.result c.from_residual.ensures.1 in
    let within = c.requires.negative.within c.loop-q.q 0 c.loop-q-test.true in
    rw (p.1) (λ is. (slice_index c.args.step.now.negative.now c.loop-q.q, within, c.in_err-join_pair.ensures.wide (search (rules, p.1, p.2, is))))

pub returns-clause-joined : goal.returns-clause-joined
returns-clause-joined c =
    let step = c.args.step.now in
    let n = length step.rows.now in
    let end : next_of step.negative.now n c.loop-q.q ≡ n = get_or_past step.negative.now c.loop-q.q n (let done = c.loop-q-test.false in omega arith) in
    joined_next (matrix_of step.matrix.now) step.column step.rows.now c.loop-q.joined.vectors.items c.args.i (next_of step.negative.now n c.loop-q.q)
    (λ b above under pair. absurd (omega (arith, end, above, under))) c.loop-q.invariant.joined

pub returns-clause-count : goal.returns-clause-count
returns-clause-count c =
    let step = c.args.step.now in
    let n = length step.rows.now in
    let end : next_of step.negative.now n c.loop-q.q ≡ n = get_or_past step.negative.now c.loop-q.q n (let done = c.loop-q-test.false in omega arith) in
    subst (λ (j : ℕ). length c.loop-q.joined.vectors.items ≤ length c.args.joined.now.vectors.items + row_offers (sums_of step.sums.now c.args.i) step.sums.now j) end c.loop-q.invariant.count

pub join_pair-requires-clause-joined : goal.join_pair-requires-clause-joined
join_pair-requires-clause-joined c =
    let step = c.args.step.now in
    let n = length step.rows.now in
    let read : next_of step.negative.now n c.loop-q.q ≡ slice_index step.negative.now c.loop-q.q = get_or_default step.negative.now c.loop-q.q n 0 c.loop-q-test.true in
    subst (AreJoined (matrix_of step.matrix.now) step.column step.rows.now c.loop-q.joined.vectors.items c.args.i) read c.loop-q.invariant.joined

pub join_pair-requires-clause-second : goal.join_pair-requires-clause-second
join_pair-requires-clause-second c = c.requires.negative.within c.loop-q.q 0 c.loop-q-test.true
