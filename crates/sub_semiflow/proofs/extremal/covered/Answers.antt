-- Vector after vector is not positive at the place, or one is.
use Rattle.std.proofs.Common.{◌≡◌, subst, ℕ, ◌<◌, ◌≤◌, List, length, get_or, slice_index}
use Rattle.std.proofs.lemmas.Bool.{le-ltb}
use Rattle.sub_semiflow.proofs.Fronts.{none_more, none_covers}
use Rattle.sub_semiflow.proofs.extremal.covered.Goals as goal

pub loop-row-preserved : goal.loop-row-preserved
loop-row-preserved c =
    let rows = c.args.rows.now in
    let k = c.loop-row.row-index in
    let row = c.row-item.result in
    let more : k < length rows = subst (λ (all : List (List ℕ)). k < length all) c.as_slice-row-items.ensures.value c.loop-row-test.true in
    let is : row ≡ get_or rows k row = subst (λ (all : List (List ℕ)). row ≡ get_or all k row) c.as_slice-row-items.ensures.value c.row-item.is in
    let none : slice_index row c.args.p ≤ 0 = subst (λ (n : ℕ). n ≤ 0) c.entry_at.ensures.value c.if-entry_at-gt0.false in
    none_more rows c.args.p k row more is (le-ltb 0 (slice_index row c.args.p) none) c.loop-row.invariant

pub returns : goal.returns
returns c =
    none_covers c.args.rows.now c.args.p c.loop-row.row-index
    (subst (λ (all : List (List ℕ)). length all ≤ c.loop-row.row-index) c.as_slice-row-items.ensures.value c.loop-row-test.false) c.loop-row.invariant
