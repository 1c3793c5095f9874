-- A line is read by its first word and the others.
use Rattle.std.proofs.Common.{◌≡◌, ◌∙◌, sym, subst, Option, Some, None, IfOk}
use Rattle.certificates.specs.declared.line.Line.{Line}
use Rattle.certificates.specs.Lines.{keyword_in}
use Rattle.certificates.proofs.LineReading.{line_without, line_with}
use Rattle.certificates.proofs.lines.read_line.Goals as goal

pub returns-in-None : goal.returns-in-None
returns-in-None c =
    let none : keyword_in c.split.result.0.now ≡ None = sym c.first_word.ensures ∙ c.in-None.is in
    sym (line_without c.args.bytes.now c.split.result.0.now c.split.result.1.now c.split.ensures.first c.split.ensures.rest none)

pub returns-in-Some : goal.returns-in-Some
returns-in-Some c =
    let some : keyword_in c.split.result.0.now ≡ Some c.in-Some.keyword = sym c.first_word.ensures ∙ c.in-Some.is in
    let same = line_with c.args.bytes.now c.split.result.0.now c.split.result.1.now c.in-Some.keyword c.split.ensures.first c.split.ensures.rest some in
    subst (λ (x : Option Line). IfOk c.line_after.result (λ line. line ≡ x)) (sym same) c.line_after.ensures
