-- Each line that was read is that of a class; the line at which the reading ends isn't, or there is none.
use Rattle.std.proofs.Common.{rules, ◌≡◌, sym, subst, List, [], ◌∷◌, ◌++◌, ◌<◌, length}
use Rattle.certificates.specs.Words.{before, from_first}
use Rattle.siphon_branch.specs.declared.branch.Branch.{Branch}
use Rattle.branch_resume.specs.Lines.{NamesClass, NamesNone}
use Rattle.branch_resume.proofs.Fronts.{IsReadTo, front_read, read_none, read_more, stops_line, stops_unended}
use Rattle.branch_resume.proofs.reading.front_classes.Goals as goal

pub lines-init : goal.lines-init
lines-init c = read_none c.args.size c.args.lines.now c.args.classes.now c.requires.empty

pub returns-in_default-2 : goal.returns-in_default-2
returns-in_default-2 c =
    let left = c.lines.left.now in
    let line = c.in-Some.line.now in
    let after = c.in-Some.after.now in
    let first : line ≡ before 10 left = search rules in
    let following : from_first 10 left ≡ 10 ∷ after = search rules in
    let none : NamesNone c.args.size line = search rules in
    front_read c.args.size c.args.lines.now c.lines.classes left c.lines.invariant (stops_line c.args.size left line after c.requires.size first following none)

pub lines-preserved : goal.lines-preserved
lines-preserved c =
    let left = c.lines.left.now in
    let line = c.in-Some.line.now in
    let after = c.in-Some.after.now in
    let first : line ≡ before 10 left = search rules in
    let following : from_first 10 left ≡ 10 ∷ after = search rules in
    let shorter : length after < length left = search rules in
    let named : NamesClass c.args.size line c.in-Some-2.class = search rules in
    let grown : c.push.new.self ≡ c.lines.classes ++ c.in-Some-2.class ∷ [] = c.in_ok-push.ensures.ok in
    subst (λ (classes : List Branch). IsReadTo c.args.size c.args.lines.now classes after) (sym grown)
    (read_more c.args.size c.args.lines.now c.lines.classes left line after c.in-Some-2.class c.lines.invariant first following shorter named)

pub returns : goal.returns
returns c =
    let left = c.lines.left.now in
    let none : from_first 10 left ≡ [] = search rules in
    front_read c.args.size c.args.lines.now c.lines.classes left c.lines.invariant (stops_unended c.args.size left c.requires.size none)
