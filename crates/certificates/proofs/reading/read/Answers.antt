-- Each line moves the progress on or is the bad one; at the end the progress is a certificate, or the next line is bad.
use Rattle.std.proofs.Common.{rules, ◌≡◌, ◌∙◌, sym, ap, subst, ℕ, ◌+◌, ◌<◌, ◌≤◌, List, [], ◌∷◌, Some, None, length, drop, arith}
use Rattle.std.specs.Option.{option_and_then}
use Rattle.certificates.specs.BadLines.{IsBadLine}
use Rattle.certificates.specs.Lines.{line_in}
use Rattle.certificates.specs.Moves.{next}
use Rattle.certificates.specs.Words.{before, from_first}
use Rattle.certificates.proofs.DueTrees.{due_after}
use Rattle.certificates.proofs.ReadLines.{ReadTo, read_further, read_more, line_is_bad, end_is_bad, end_spells, line_parts, line_free, rest_free, nothing_left}
use Rattle.certificates.proofs.Runs.{run_fits, run_due}
use Rattle.certificates.proofs.TreeTexts.{tail_whole}
use Rattle.certificates.proofs.reading.read.Goals as goal
use Rattle.certificates.proofs.reading.read.Goals.{in_default-progress-via-in-Ended+else-is_empty, in_default-progress-via-in_default-progress}

pub returns-in_default-2-clause-bad : goal.returns-in_default-2-clause-bad
returns-in_default-2-clause-bad c = λ number is.
    let rest = c.lines.rest.now in
    let line = c.in-Some.line.now in
    let after = c.in-Some.after.now in
    let first : line ≡ before 10 rest = search rules in
    let following : from_first 10 rest ≡ 10 ∷ after = search rules in
    let stops : option_and_then (next c.lines.progress) (line_in line) ≡ None = search rules in
    let same : c.lines.number ≡ number = cc in
    subst (IsBadLine c.args.bytes.now) same
    (line_is_bad c.args.bytes.now rest line after c.lines.progress c.lines.number c.lines.invariant.0 (line_parts rest line after first following) (line_free rest line first) stops)

pub lines-preserved : goal.lines-preserved
lines-preserved c =
    let rest = c.lines.rest.now in
    let line = c.in-Some.line.now in
    let after = c.in-Some.after.now in
    let first : line ≡ before 10 rest = search rules in
    let following : from_first 10 rest ≡ 10 ∷ after = search rules in
    let shorter : length after + 1 ≤ length rest = search rules in
    let moves : option_and_then (next c.lines.progress) (line_in line) ≡ Some c.in-Some-2.later = sym c.in_ok-later.ensures ∙ c.in-Some-2.is in
    let one = read_more c.args.bytes.now rest line after c.lines.progress c.in-Some-2.later c.lines.number c.lines.invariant.0 (line_parts rest line after first following) moves in
    let more = due_after c.lines.progress (line_in line) c.in-Some-2.later moves in
    let advance = c.in_ok-advance.advance in
    let left = drop advance.bytes after in
    let tail = tail_whole advance.bytes after c.in_ok-advance.ensures.within in
    let run = c.in_ok-advance.ensures.read in
    let fits = run_fits c.in-Some-2.later advance.progress after left advance.lines run in
    let later = run_due c.in-Some-2.later advance.progress after left advance.lines run in
    let count : c.lines.number + 1 + advance.lines ≡ c.lines.number + (1 + advance.lines) = omega arith in
    let due = c.lines.invariant.1 in
    let room = c.lines.invariant.2 in
    let size = ap length tail in (
      subst (λ (end : List ℕ). ReadTo c.args.bytes.now end advance.progress (c.lines.number + (1 + advance.lines))) (sym tail)
          (subst (ReadTo c.args.bytes.now left advance.progress) count (read_further c.args.bytes.now after left c.in-Some-2.later advance.progress (c.lines.number + 1) advance.lines one run)),
      omega (arith, more, due, later),
      omega (arith, room, shorter, fits, size),
    )

pub returns-in-Ended-clause-spelled : goal.returns-in-Ended-clause-spelled
returns-in-Ended-clause-spelled c =
    let size : length c.lines.rest.now ≡ 0 = search rules in
    let none : c.lines.rest.now ≡ [] = nothing_left c.lines.rest.now size in
    end_spells c.args.bytes.now c.lines.rest.now c.lines.progress c.lines.number c.in-Ended.certificate c.lines.invariant.0 c.in-Ended.is none

pub returns-in_default-progress-clause-bad : goal.returns-in_default-progress-clause-bad
returns-in_default-progress-clause-bad c = λ number is.
    let none : from_first 10 c.lines.rest.now ≡ [] = search rules in
    let same : c.lines.number ≡ number = cc in
    subst (IsBadLine c.args.bytes.now) same
    (end_is_bad c.args.bytes.now c.lines.rest.now c.lines.progress c.lines.number c.lines.invariant.0 (rest_free c.lines.rest.now none)
    (λ certificate ended empty. elim c.in_default-progress.branch [
      | in_default-progress-via-in-Ended+else-is_empty w ↦ search (rules, empty)
      | in_default-progress-via-in_default-progress w ↦ search (rules, ended)
    ]))

pub overflow_add-number : goal.overflow_add-number
overflow_add-number c =
    let advance = c.in_ok-advance.advance in
    let fits = run_fits c.in-Some-2.later advance.progress c.in-Some.after.now (drop advance.bytes c.in-Some.after.now) advance.lines c.in_ok-advance.ensures.read in
    let shorter : length c.in-Some.after.now < length c.lines.rest.now = search rules in
    omega (arith, fits, shorter)

pub overflow_add-number-in-Some : goal.overflow_add-number-in-Some
overflow_add-number-in-Some c =
    let advance = c.in_ok-advance.advance in
    let fits = run_fits c.in-Some-2.later advance.progress c.in-Some.after.now (drop advance.bytes c.in-Some.after.now) advance.lines c.in_ok-advance.ensures.read in
    let shorter : length c.in-Some.after.now < length c.lines.rest.now = search rules in
    let room = c.lines.invariant.2 in
    omega (arith, fits, shorter, room)
