-- The word is the text of the place and the coefficient, which is read again as they are.
use Rattle.std.proofs.Common.{rules, ◌≡◌, ◌∙◌, ap, ◌∷◌, ◌++◌, ◌-◌, ℕ, List, get_or, take, drop, length, decimal, Some, arith}
use Rattle.std.specs.Prelude.{pos}
use Rattle.certificates.specs.Lines.{term_in}
use Rattle.certificates.proofs.LineReading.{term_again}
use Rattle.certificates.proofs.LineWords.{term_text}
use Rattle.certificates.proofs.TreeTexts.{first_known}
use Rattle.certificates.proofs.numbers.short_term.Goals as goal

pub returns-then-coefficient-gt0-clause-value : goal.returns-then-coefficient-gt0-clause-value
returns-then-coefficient-gt0-clause-value c =
    let rest = c.in_ok-place.rest.now in
    let text = take (length rest - 1) (drop 1 rest) in
    let colon : get_or rest 0 0 ≡ 58 = search rules in
    let place = c.in_ok-place.place in
    let coefficient = c.in_ok-coefficient.coefficient in
    let whole : c.args.word.now ≡ term_text (place, pos coefficient) =
    c.in_ok-place.ensures.1 ∙ ap (λ (xs : List ℕ). decimal place ++ xs) (first_known 58 rest (omega arith) colon ∙ ap (λ (xs : List ℕ). 58 ∷ xs) c.in_ok-coefficient.ensures.1) in
    let value : term_in c.args.word.now ≡ Some (place, pos coefficient) = ap term_in whole ∙ term_again (place, pos coefficient) (omega arith, (omega arith, omega arith)) in
    search (rules, value)
