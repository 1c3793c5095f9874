use Rattle.std.proofs.Common.{◌≡◌, ◌+◌, ◌*◌, ◌∙◌, ap, ℕ, List, slice_index, arith}
use Rattle.semiflow_elim.proofs.Summing.{all_summed, summed_more}
use Rattle.semiflow_elim.proofs.row_arithmetic.scaled_sum.Goals as goal

pub positions-preserved : goal.positions-preserved
positions-preserved c =
    let r = c.args.r.now in
    let s = c.args.s.now in
    let i = c.in-Some.i in
    let under = c.in-Some.ensures.below_size in
    let size = c.in-Ok.ensures.size in
    let first : c.take_at.result ≡ slice_index r i = c.take_at.ensures.entry ∙ ap (λ (es : List ℕ). slice_index es i) c.positions.invariant.first in
    let second : c.take_at-in-Some.result ≡ slice_index s i = c.take_at-in-Some.ensures.entry ∙ ap (λ (es : List ℕ). slice_index es i) c.positions.invariant.second in
    let is : c.in-Ok-scaled_entry.entry ≡ c.args.x * slice_index r i + c.args.y * slice_index s i = c.in-Ok-scaled_entry.ensures.1 ∙ ap (λ (e : ℕ). c.args.x * e + c.args.y * c.take_at-in-Some.result) first ∙ ap (λ (e : ℕ). c.args.x * slice_index r i + c.args.y * e) second in
    record {
      first = c.take_at.ensures.same ∙ c.positions.invariant.first;
      first_from = c.take_at.ensures.from;
      second = c.take_at-in-Some.ensures.same ∙ c.positions.invariant.second;
      second_from = c.take_at-in-Some.ensures.from;
      within = omega arith;
      sum = summed_more c.args.x c.args.y r s c.in-Ok.either c.in-Ok.ensures c.positions.from i c.in-Some.ensures c.positions.sum c.append.new.self c.in-Ok-scaled_entry.entry (omega arith) (let small = c.in-Ok-scaled_entry.ensures.0 in let told = c.in-Ok-scaled_entry.ensures.1 in omega arith) is c.append.ensures c.positions.invariant.sum;
    }

pub returns-clause-ok : goal.returns-clause-ok
returns-clause-ok c =
    all_summed c.args.x c.args.y c.args.r.now c.args.s.now c.in-Ok.either c.in-Ok.ensures c.positions.from c.positions.sum c.in_default-first_from.ensures c.positions.invariant.sum
