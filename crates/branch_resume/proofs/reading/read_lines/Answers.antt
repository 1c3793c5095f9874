-- What follows the lines of classes tells whether they are a token, and the classes whether it is accepted.
use Rattle.std.proofs.Common.{rules, ◌≡◌, ◌∙◌, sym, ap, subst, ℕ, ◌+◌, ◌<◌, ◌++◌, AllPairs, length}
use Rattle.siphon_branch.specs.Classes.{AreDisjoint}
use Rattle.branch_resume.specs.Disjoint.{IsFirstOverlap}
use Rattle.branch_resume.specs.Lines.{BeginsOtherwise}
use Rattle.branch_resume.specs.Pending.{IsMalformedAt, IsRejectedAt}
use Rattle.branch_resume.proofs.Fronts.{malformed_lines, overlap_rejected, place_rejected, lines_read}
use Rattle.branch_resume.proofs.TokenLines.{end_line, first_line}
use Rattle.branch_resume.proofs.reading.read_lines.Goals as goal

pub returns-in_default-clause-bad : goal.returns-in_default-clause-bad
returns-in_default-clause-bad c = λ line is.
    let unended : BeginsOtherwise end_line c.in_ok-left-2.left.now = search rules in
    let sizes : length c.front_classes.new.classes + length c.front_classes-2.new.classes + 2 ≡ c.len.result + c.len-in_default.result + 2 = λ i. sym c.len.ensures i + sym c.len-in_default.ensures i + 2 in
    let same : length c.front_classes.new.classes + length c.front_classes-2.new.classes + 2 ≡ line = sizes ∙ (let both = is in cc) in
    subst (IsMalformedAt (first_line ++ c.args.lines.now)) same
    (malformed_lines c.args.places c.requires c.args.lines.now c.in_ok-left.left.now c.in_ok-left-2.left.now c.front_classes.new.classes c.front_classes-2.new.classes c.in_ok-left.ensures c.in_ok-left-2.ensures unended)

pub returns-in-Some-2-clause-rejected : goal.returns-in-Some-2-clause-rejected
returns-in-Some-2-clause-rejected c = λ line is.
    let first : IsFirstOverlap c.front_classes.new.classes c.in-Some-2.k = search rules in
    let same : c.in-Some-2.k + 2 ≡ line = (let both = is in cc) in
    subst (IsRejectedAt c.args.places (first_line ++ c.args.lines.now)) same
    (overlap_rejected c.args.places c.requires c.args.lines.now c.in_ok-left.left.now c.in_ok-left-2.left.now c.front_classes.new.classes c.front_classes-2.new.classes c.in_ok-left.ensures c.in_ok-left-2.ensures c.in-Some._after.now c.in-Some.ensures c.in-Some-2.k first)

pub returns-in-None-clause-rejected : goal.returns-in-None-clause-rejected
returns-in-None-clause-rejected c = λ line is.
    let disjoint : AllPairs AreDisjoint c.front_classes.new.classes = search rules in
    let some : 0 < length c.front_classes-2.new.classes = search rules in
    let same : length c.front_classes.new.classes + 2 ≡ line = ap (λ (n : ℕ). n + 2) (sym c.len-in-None.ensures) ∙ (let both = is in cc) in
    subst (IsRejectedAt c.args.places (first_line ++ c.args.lines.now)) same
    (place_rejected c.args.places c.requires c.args.lines.now c.in_ok-left.left.now c.in_ok-left-2.left.now c.front_classes.new.classes c.front_classes-2.new.classes c.in_ok-left.ensures c.in_ok-left-2.ensures c.in-Some._after.now c.in-Some.ensures some disjoint)

pub returns-in-None-2-clause-read : goal.returns-in-None-2-clause-read
returns-in-None-2-clause-read c =
    let disjoint : AllPairs AreDisjoint c.front_classes.new.classes = search rules in
    let none : length c.front_classes-2.new.classes ≡ 0 = search rules in
    lines_read c.args.places c.requires c.args.lines.now c.in_ok-left.left.now c.in_ok-left-2.left.now c.front_classes.new.classes c.front_classes-2.new.classes c.in_ok-left.ensures c.in_ok-left-2.ensures c.in-Some._after.now c.in-Some.ensures none disjoint
