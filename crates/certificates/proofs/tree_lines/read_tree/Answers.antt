-- Each line is a run of its own after those that were read.
use Rattle.std.proofs.Common.{rules, ◌≡◌, Some, arith}
use Rattle.certificates.specs.Moves.{next}
use Rattle.certificates.specs.declared.line.Line.TheVariants.{Tree}
use Rattle.certificates.specs.declared.progress.Progress.TheVariants.{InTree}
use Rattle.certificates.proofs.Runs.{both, one_line, run_fits, run_due}
use Rattle.certificates.proofs.tree_lines.read_tree.Goals as goal

pub due_after-due-requires-clause-few : goal.due_after-due-requires-clause-few
due_after-due-requires-clause-few c =
    let fits = run_fits (InTree c.args.tree c.args.due) (InTree c.lines.tree c.lines.due) c.args.bytes.now c.lines.rest.now c.lines.lines c.lines.invariant in
    let due = run_due (InTree c.args.tree c.args.due) (InTree c.lines.tree c.lines.due) c.args.bytes.now c.lines.rest.now c.lines.lines c.lines.invariant in
    omega (arith, fits, due)

pub overflow_add-lines : goal.overflow_add-lines
overflow_add-lines c =
    let fits = run_fits (InTree c.args.tree c.args.due) (InTree c.lines.tree c.lines.due) c.args.bytes.now c.lines.rest.now c.lines.lines c.lines.invariant in
    omega (arith, fits)

pub lines-preserved : goal.lines-preserved
lines-preserved c =
    let now = InTree c.lines.tree c.lines.due in
    let later = InTree c.push.new.self c.due_after-due.result in
    let moves : next now (Tree c.in-Some.line) ≡ Some later = search rules in
    let run = one_line now later (Tree c.in-Some.line) c.lines.rest.now c.in-Some.after.now c.in-Some.ensures.line.0 c.in-Some.ensures.line.1 moves in
    both (InTree c.args.tree c.args.due) now later c.args.bytes.now c.lines.rest.now c.in-Some.after.now c.lines.lines 1 c.lines.invariant run

pub lines-smaller : goal.lines-smaller
lines-smaller c =
    let now = InTree c.lines.tree c.lines.due in
    let later = InTree c.push.new.self c.due_after-due.result in
    let moves : next now (Tree c.in-Some.line) ≡ Some later = search rules in
    let run = one_line now later (Tree c.in-Some.line) c.lines.rest.now c.in-Some.after.now c.in-Some.ensures.line.0 c.in-Some.ensures.line.1 moves in
    let fits = run_fits now later c.lines.rest.now c.in-Some.after.now 1 run in
    omega (arith, fits)
