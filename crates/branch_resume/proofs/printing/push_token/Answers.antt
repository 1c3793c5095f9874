use Rattle.std.proofs.Common.{rules, ◌≡◌, ◌++◌}
use Rattle.branch_resume.proofs.TokenLines.{class_bytes, end_line, first_line, token_printed}
use Rattle.branch_resume.proofs.printing.push_token.Goals as goal

pub returns : goal.returns
returns c =
    let grown : c.push-2.new.self ≡ ((c.args.text.now ++ first_line) ++ class_bytes c.args.classes.now) ++ end_line = search rules in
    token_printed c.push-2.new.self c.args.text.now c.args.classes.now grown
