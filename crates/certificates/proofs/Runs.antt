-- Runs of lines that are read one after the other: a line alone is one, two that follow one another are one, and no run
-- has more lines, or makes more trees due, than it has bytes.
use Rattle.std.proofs.Common.{◌≡◌, refl, sym, ap, ◌∙◌, subst, ℕ, ◌+◌, ◌≤◌, List, [], ◌∷◌, ◌++◌, length, map, Some, append_assoc, append-nil, arith}
use Rattle.std.specs.Option.{option_and_then}
use Rattle.std.proofs.lemmas.List.{length-append, map-append}
use Rattle.certificates.specs.declared.line.Line.{Line}
use Rattle.certificates.specs.declared.progress.Progress.{Progress}
use Rattle.certificates.specs.Lines.{spelled, IsProper}
use Rattle.certificates.specs.Moves.{ReadsOn, next, read_on, due_of}
use Rattle.certificates.proofs.DueTrees.{due_more}
use Rattle.certificates.proofs.LineReading.{chained}
use Rattle.certificates.proofs.LineSplits.{bytes_of}
use Rattle.certificates.proofs.LineWords.{front_of, spelled_is}
use Rattle.certificates.proofs.Lists.{each_append}
use Rattle.certificates.proofs.Progressing.{read_append}

pub bytes_append : (lines more : List (List ℕ)) → bytes_of (lines ++ more) ≡ bytes_of lines ++ bytes_of more
bytes_append [] more = refl
bytes_append (line ∷ lines) more = ap (λ (xs : List ℕ). line ++ xs) (bytes_append lines more) ∙ sym (append_assoc line (bytes_of lines) (bytes_of more))

pub no_line : (progress : Progress) (bytes : List ℕ) → ReadsOn progress bytes progress bytes 0
no_line progress bytes = record { lines = []; proper = tt; read = refl; joined = refl; count = refl }

pub one_line : (progress later : Progress) (line : Line) (bytes rest : List ℕ) → IsProper line → bytes ≡ spelled line ++ rest → next progress line ≡ Some later → ReadsOn progress bytes later rest 1
one_line progress later line bytes rest proper joined moves = record {
  lines = line ∷ [];
  proper = (proper, tt);
  read = ap (option_and_then (λ (now : Progress). Some now)) moves;
  joined = joined ∙ ap (λ (xs : List ℕ). xs ++ rest) (sym (append-nil (spelled line)));
  count = refl;
}

both_joined : (ones others : List Line) (bytes rest after : List ℕ) → bytes ≡ bytes_of (map spelled ones) ++ rest → rest ≡ bytes_of (map spelled others) ++ after → bytes ≡ bytes_of (map spelled (ones ++ others)) ++ after
both_joined ones others bytes rest after first second =
    first ∙ ap (λ (xs : List ℕ). bytes_of (map spelled ones) ++ xs) second
    ∙ sym (append_assoc (bytes_of (map spelled ones)) (bytes_of (map spelled others)) after)
    ∙ ap (λ (xs : List ℕ). xs ++ after) (sym (bytes_append (map spelled ones) (map spelled others)) ∙ ap bytes_of (sym (map-append spelled ones others)))

pub both : (progress now later : Progress) (bytes rest after : List ℕ) (m n : ℕ) → ReadsOn progress bytes now rest m → ReadsOn now rest later after n → ReadsOn progress bytes later after (m + n)
both progress now later bytes rest after m n one other =
    let size = length-append one.lines other.lines in
    let first = one.count in
    let second = other.count in
    record {
      lines = one.lines ++ other.lines;
      proper = each_append IsProper one.lines other.lines one.proper other.proper;
      read = read_append progress one.lines other.lines ∙ ap (option_and_then (λ (p : Progress). read_on p other.lines)) one.read ∙ other.read;
      joined = both_joined one.lines other.lines bytes rest after one.joined other.joined;
      count = omega (arith, size, first, second);
    }

-- ---- sizes

lines_long : (lines : List Line) → length lines ≤ length (bytes_of (map spelled lines))
lines_long [] = omega arith
lines_long (line ∷ lines) =
    let size = length-append (spelled line) (bytes_of (map spelled lines)) in
    let front = ap length (spelled_is line) in
    let ends = length-append (front_of line) (10 ∷ []) in
    let rest = lines_long lines in
    omega (arith, size, front, ends, rest)

pub run_fits : (progress later : Progress) (bytes rest : List ℕ) (count : ℕ) → ReadsOn progress bytes later rest count → count + length rest ≤ length bytes
run_fits progress later bytes rest count run =
    let long = lines_long run.lines in
    let whole = ap length run.joined in
    let size = length-append (bytes_of (map spelled run.lines)) rest in
    let lines = run.count in
    omega (arith, long, whole, size, lines)

due_on : (lines : List Line) (progress later : Progress) → read_on progress lines ≡ Some later → due_of later ≤ due_of progress + length lines
due_on [] progress later read = let same : progress ≡ later = cc in subst (λ (p : Progress). due_of p ≤ due_of progress + 0) same (omega arith)
due_on (line ∷ lines) progress later read =
    let c = chained (λ (now : Progress). read_on now lines) (next progress line) later read in
    let one = due_more progress line c.0 c.1 in
    let rest = due_on lines c.0 later c.2 in
    omega (arith, one, rest)

pub run_due : (progress later : Progress) (bytes rest : List ℕ) (count : ℕ) → ReadsOn progress bytes later rest count → due_of later ≤ due_of progress + count
run_due progress later bytes rest count run =
    let due = due_on run.lines progress later run.read in
    let lines = run.count in
    omega (arith, due, lines)
