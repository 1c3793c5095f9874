use Rattle.std.proofs.Common.{◌≡◌, sym, ◌∙◌, subst, ℕ, ◌+◌, ◌-◌, ◌<◌, List, [], length, arith}
use Rattle.std.proofs.lemmas.List.{get_or_default}
use Rattle.semiflow_elim.specs.Carried.{AreListed, list_of}
use Rattle.semiflow_elim.specs.Counts.{AreCountedIn, AreIncluded}
use Rattle.semiflow_elim.specs.Kept.{AreSwept}
use Rattle.semiflow_elim.specs.declared.carried.ColumnSums.{ColumnSums}
use Rattle.semiflow_elim.proofs.Moves.{swept_none, swept_stay, swept_drop, swept_whole}
use Rattle.semiflow_elim.proofs.Uncounting.{included_row, listed_dropped, row_uncounted}
use Rattle.semiflow_elim.proofs.kept.keep_zeros.Goals as goal

pub loop-left-init : goal.loop-left-init
loop-left-init c = record {
  few = omega arith;
  swept = swept_none c.args.sums.now c.args.rows.now.vectors.items c.args.rows.now.sums.items c.requires.carried c.requires.few;
  listed = c.requires.listed;
  counted = c.requires.counted;
}

pub loop-left-preserved-then-sums-left : goal.loop-left-preserved-then-sums-left
loop-left-preserved-then-sums-left c =
    let sums = c.args.sums.now in
    let old = c.args.rows.now in
    let now = c.loop-left.rows in
    let new = c.drop_row.new.self in
    let few = c.loop-left.invariant.few in
    let some : 0 < c.loop-left.left = c.loop-left-test.true in
    let next : c.loop-left.left ≡ c.loop-left.left - 1 + 1 = omega arith in
    let swept = subst (AreSwept sums old.vectors.items old.sums.items now.vectors.items now.sums.items) next c.loop-left.invariant.swept in
    let both = c.loop-left.invariant.swept.carried_size in
    let within = c.loop-left.invariant.swept.within in
    let under : c.loop-left.left - 1 < length now.sums.items = omega arith in
    let item : c.as_slice.result.now ≡ list_of now.sums.items (c.loop-left.left - 1) = c.as_slice.ensures ∙ c.index.ensures ∙ get_or_default now.sums.items (c.loop-left.left - 1) c.index.result.now [] under in
    record {
      few = omega arith;
      swept = swept_drop sums old.vectors.items old.sums.items now.vectors.items now.sums.items (c.loop-left.left - 1) (omega arith) swept new.vectors.items new.sums.items c.drop_row.ensures.vectors c.drop_row.ensures.sums c.if-sums-left.true;
      listed = listed_dropped (length c.args.counts.now) now.sums.items new.sums.items (c.loop-left.left - 1) c.loop-left.invariant.listed c.drop_row.ensures.sums;
      counted = row_uncounted now.sums.items new.sums.items (list_of now.sums.items (c.loop-left.left - 1)) (length c.args.counts.now) c.loop-left.counts c.uncount_row.new.counts c.loop-left.invariant.counted c.drop_row.ensures.counted
          (subst (λ (l : List ColumnSums). AreCountedIn c.uncount_row.new.counts l c.loop-left.counts) item c.uncount_row.ensures);
    }

pub loop-left-preserved : goal.loop-left-preserved
loop-left-preserved c =
    let sums = c.args.sums.now in
    let old = c.args.rows.now in
    let now = c.loop-left.rows in
    let few = c.loop-left.invariant.few in
    let some : 0 < c.loop-left.left = c.loop-left-test.true in
    let next : c.loop-left.left ≡ c.loop-left.left - 1 + 1 = omega arith in
    let swept = subst (AreSwept sums old.vectors.items old.sums.items now.vectors.items now.sums.items) next c.loop-left.invariant.swept in
    record {
      few = omega arith;
      swept = swept_stay sums old.vectors.items old.sums.items now.vectors.items now.sums.items (c.loop-left.left - 1) (omega arith) swept c.if-sums-left.false;
      listed = c.loop-left.invariant.listed;
      counted = c.loop-left.invariant.counted;
    }

pub returns-clause-kept : goal.returns-clause-kept
returns-clause-kept c =
    let none : c.loop-left.left ≡ 0 = let end = c.loop-left-test.false in omega arith in
    let now = c.loop-left.rows in
    swept_whole c.args.sums.now c.args.rows.now.vectors.items c.args.rows.now.sums.items now.vectors.items now.sums.items
    (subst (AreSwept c.args.sums.now c.args.rows.now.vectors.items c.args.rows.now.sums.items now.vectors.items now.sums.items) none c.loop-left.invariant.swept)

pub returns-clause-counted : goal.returns-clause-counted
returns-clause-counted c = c.loop-left.invariant.counted

pub uncount_row-requires-clause-listed : goal.uncount_row-requires-clause-listed
uncount_row-requires-clause-listed c =
    let carried = c.loop-left.rows.sums.items in
    let both = c.loop-left.invariant.swept.carried_size in
    let within = c.loop-left.invariant.swept.within in
    let some : 0 < c.loop-left.left = c.loop-left-test.true in
    let under : c.loop-left.left - 1 < length carried = omega arith in
    let size = c.loop-left.invariant.counted.size in
    let item : c.as_slice.result.now ≡ list_of carried (c.loop-left.left - 1) = c.as_slice.ensures ∙ c.index.ensures ∙ get_or_default carried (c.loop-left.left - 1) c.index.result.now [] under in
    subst (λ (n : ℕ). AreListed n c.as_slice.result.now) (sym size) (subst (AreListed (length c.args.counts.now)) (sym item) (c.loop-left.invariant.listed (c.loop-left.left - 1) [] under))

pub uncount_row-requires-clause-included : goal.uncount_row-requires-clause-included
uncount_row-requires-clause-included c =
    let carried = c.loop-left.rows.sums.items in
    let both = c.loop-left.invariant.swept.carried_size in
    let within = c.loop-left.invariant.swept.within in
    let some : 0 < c.loop-left.left = c.loop-left-test.true in
    let under : c.loop-left.left - 1 < length carried = omega arith in
    let item : c.as_slice.result.now ≡ list_of carried (c.loop-left.left - 1) = c.as_slice.ensures ∙ c.index.ensures ∙ get_or_default carried (c.loop-left.left - 1) c.index.result.now [] under in
    subst (λ (l : List ColumnSums). AreIncluded l c.loop-left.counts) (sym item) (included_row carried (length c.args.counts.now) c.loop-left.counts (c.loop-left.left - 1) c.loop-left.invariant.counted under)
