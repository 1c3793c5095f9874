use Rattle.std.proofs.Common.{◌≡◌, ◌++◌, ◌∷◌, [], ◌+◌, sym, ◌∙◌, subst, rules, arith}
use Rattle.incidence.specs.Tables.{matrix_of}
use Rattle.semiflow_elim.specs.Bases.{in_set}
use Rattle.semiflow_elim.specs.Merged.{AreMerged}
use Rattle.semiflow_elim.proofs.Merging.{merged_start, merged_end, column_within, joint_here, merged_inside, merged_more, shorter}
use Rattle.semiflow_elim.proofs.TakenSets.{outside}
use Rattle.semiflow_elim.proofs.merged.merged_sums.Goals as goal

pub columns-init : goal.columns-init
columns-init c =
    let none : c.new-sums.result ≡ [] = c.new-sums.ensures in (
      0,
      subst (AreMerged (matrix_of c.args.matrix.now) (in_set c.args.after.now) c.args.row.now c.args.first.now c.args.second.now c.args.first.now c.args.second.now 0) (sym none)
          (merged_start (matrix_of c.args.matrix.now) (in_set c.args.after.now) c.args.row.now c.args.by c.args.first.now c.args.second.now c.requires.divisor c.requires.joint c.requires.first c.requires.second),
    )

pub contains-requires : goal.contains-requires
contains-requires c =
    let m = matrix_of c.args.matrix.now in
    let h = c.columns.invariant.1 in
    let low = c.in-Some.ensures c.columns.invariant.0 m.columns h.left_from h.right_from in
    let within = column_within m (in_set c.args.after.now) c.args.row.now c.args.by c.args.first.now c.args.second.now c.requires.divisor c.requires.joint c.columns.left.now c.columns.right.now c.columns.invariant.0 c.columns.sums h c.in-Some.column low.0 low.1 low.2 in
    let size = c.requires.columns in
    omega arith

pub joined_at-requires-clause-column : goal.joined_at-requires-clause-column
joined_at-requires-clause-column c =
    let m = matrix_of c.args.matrix.now in
    let h = c.columns.invariant.1 in
    let low = c.in-Some.ensures c.columns.invariant.0 m.columns h.left_from h.right_from in
    column_within m (in_set c.args.after.now) c.args.row.now c.args.by c.args.first.now c.args.second.now c.requires.divisor c.requires.joint c.columns.left.now c.columns.right.now c.columns.invariant.0 c.columns.sums h c.in-Some.column low.0 low.1 low.2

pub joined_at-requires-clause-joint : goal.joined_at-requires-clause-joint
joined_at-requires-clause-joint c =
    let m = matrix_of c.args.matrix.now in
    let h = c.columns.invariant.1 in
    let low = c.in-Some.ensures c.columns.invariant.0 m.columns h.left_from h.right_from in
    let one = c.taken_at.ensures m.columns low.0 in
    let two = c.taken_at-in-Some.ensures m.columns low.1 in
    joint_here m (in_set c.args.after.now) c.args.row.now c.args.by c.args.first.now c.args.second.now c.requires.divisor c.requires.joint c.columns.left.now c.columns.right.now c.columns.invariant.0 c.columns.sums h c.in-Some.column low.0 low.1 low.2
    c.taken_at.result.0 c.taken_at-in-Some.result.0 one.sums_are two.sums_are (outside c.args.after.now c.in-Some.column (sym c.contains.ensures ∙ c.if-not-contains.true))

pub columns-smaller : goal.columns-smaller
columns-smaller c =
    let m = matrix_of c.args.matrix.now in
    let K = in_set c.args.after.now in
    let row = c.args.row.now in
    let first = c.args.first.now in
    let second = c.args.second.now in
    let n = c.columns.invariant.0 in
    let h = c.columns.invariant.1 in
    let j = c.in-Some.column in
    let sums = c.columns.sums in
    let others = c.taken_at.result.1.now in
    let rest = c.taken_at-in-Some.result.1.now in
    let low = c.in-Some.ensures n m.columns h.left_from h.right_from in
    let one = c.taken_at.ensures m.columns low.0 in
    let two = c.taken_at-in-Some.ensures m.columns low.1 in
    shorter m K row c.args.by first second c.requires.divisor c.requires.joint c.columns.left.now c.columns.right.now n sums h j low.0 low.1 low.2 c.taken_at.result.0 c.taken_at-in-Some.result.0 others rest one two

pub columns-smaller-in_ok-push : goal.columns-smaller-in_ok-push
columns-smaller-in_ok-push c =
    let m = matrix_of c.args.matrix.now in
    let K = in_set c.args.after.now in
    let row = c.args.row.now in
    let first = c.args.first.now in
    let second = c.args.second.now in
    let n = c.columns.invariant.0 in
    let h = c.columns.invariant.1 in
    let j = c.in-Some.column in
    let sums = c.columns.sums in
    let others = c.taken_at.result.1.now in
    let rest = c.taken_at-in-Some.result.1.now in
    let low = c.in-Some.ensures n m.columns h.left_from h.right_from in
    let one = c.taken_at.ensures m.columns low.0 in
    let two = c.taken_at-in-Some.ensures m.columns low.1 in
    shorter m K row c.args.by first second c.requires.divisor c.requires.joint c.columns.left.now c.columns.right.now n sums h j low.0 low.1 low.2 c.taken_at.result.0 c.taken_at-in-Some.result.0 others rest one two

pub columns-preserved : goal.columns-preserved
columns-preserved c =
    let m = matrix_of c.args.matrix.now in
    let K = in_set c.args.after.now in
    let row = c.args.row.now in
    let first = c.args.first.now in
    let second = c.args.second.now in
    let n = c.columns.invariant.0 in
    let h = c.columns.invariant.1 in
    let j = c.in-Some.column in
    let sums = c.columns.sums in
    let others = c.taken_at.result.1.now in
    let rest = c.taken_at-in-Some.result.1.now in
    let low = c.in-Some.ensures n m.columns h.left_from h.right_from in
    let one = c.taken_at.ensures m.columns low.0 in
    let two = c.taken_at-in-Some.ensures m.columns low.1 in
    (j + 1, merged_inside m K row c.args.by first second c.requires.divisor c.requires.joint c.columns.left.now c.columns.right.now n sums h j low.0 low.1 low.2 c.taken_at.result.0 c.taken_at-in-Some.result.0 others rest one two (sym c.contains.ensures ∙ c.if-not-contains.false))

pub columns-preserved-in_ok-push : goal.columns-preserved-in_ok-push
columns-preserved-in_ok-push c =
    let m = matrix_of c.args.matrix.now in
    let K = in_set c.args.after.now in
    let row = c.args.row.now in
    let first = c.args.first.now in
    let second = c.args.second.now in
    let n = c.columns.invariant.0 in
    let h = c.columns.invariant.1 in
    let j = c.in-Some.column in
    let sums = c.columns.sums in
    let others = c.taken_at.result.1.now in
    let rest = c.taken_at-in-Some.result.1.now in
    let low = c.in-Some.ensures n m.columns h.left_from h.right_from in
    let one = c.taken_at.ensures m.columns low.0 in
    let two = c.taken_at-in-Some.ensures m.columns low.1 in
    let pushed : c.push.new.self ≡ sums ++ c.joined_at.result ∷ [] = search rules in
    (j + 1, subst (AreMerged m K row first second others rest (j + 1)) (sym pushed) (merged_more m K row c.args.by first second c.requires.divisor c.requires.joint c.columns.left.now c.columns.right.now n sums h j low.0 low.1 low.2 c.taken_at.result.0 c.taken_at-in-Some.result.0 others rest one two c.joined_at.result c.joined_at.ensures.sums c.joined_at.ensures.column))

pub returns : goal.returns
returns c =
    let m = matrix_of c.args.matrix.now in
    let h = c.columns.invariant.1 in
    let none = c.in_default.ensures c.columns.invariant.0 m.columns h.left_from h.right_from in
    merged_end m (in_set c.args.after.now) c.args.row.now c.args.by c.args.first.now c.args.second.now c.requires.divisor c.requires.joint c.columns.left.now c.columns.right.now c.columns.invariant.0 c.columns.sums h none.0 none.1
