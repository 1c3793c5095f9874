-- A place is read where the text is that of its number, and it is low or high where it isn't in the limits.
use Rattle.std.proofs.Common.{rules, arith, ◌≡◌, ◌≤◌, ◌<◌, Some}
use Rattle.certificates.specs.Lines.{place_in}
use Rattle.branch_resume.specs.Lines.{NoPlaceText}
use Rattle.branch_resume.proofs.PlaceTexts.{no_place_text, place_text, place_is}
use Rattle.branch_resume.proofs.class_lines.place_from.Goals as goal
use Rattle.branch_resume.proofs.class_lines.place_from.Goals.{else-least-p-via-then-least-p+else-p-limit, else-least-p-via-else-least-p}

pub returns-in_err-p : goal.returns-in_err-p
returns-in_err-p c =
    let none : NoPlaceText c.args.least c.args.limit c.args.text.now = no_place_text c.args.least c.args.limit c.args.text.now c.requires (search rules) in
    search (rules, none)

pub returns-then-p-limit : goal.returns-then-p-limit
returns-then-p-limit c =
    let found : place_in c.args.text.now ≡ Some c.in_ok-p.field-0 = search rules in
    record { low = omega arith; high = omega arith; spelled = place_text c.args.text.now c.in_ok-p.field-0 found }

pub returns-else-least-p : goal.returns-else-least-p
returns-else-least-p c = λ p is.
    let found : place_in c.args.text.now ≡ Some c.in_ok-p.field-0 = search rules in
    let same : p ≡ c.in_ok-p.field-0 = place_is c.args.least c.args.limit c.args.text.now c.in_ok-p.field-0 p c.requires found is in
    let low : c.args.least ≤ p = is.low in
    let high : p < c.args.limit = is.high in
    elim c.else-least-p.branch [
      | else-least-p-via-then-least-p+else-p-limit w ↦ omega (arith, low, high, same)
      | else-least-p-via-else-least-p w ↦ omega (arith, low, high, same)
    ]
