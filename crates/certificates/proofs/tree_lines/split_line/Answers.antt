use Rattle.std.proofs.Common.{rules, ◌≡◌, ◌-◌, get_or, take, drop, length}
use Rattle.certificates.proofs.TreeTexts.{first_known, split_text}
use Rattle.certificates.proofs.tree_lines.split_line.Goals as goal

pub returns-in-10 : goal.returns-in-10
returns-in-10 c =
    let rest = c.in_ok-place.rest.now in
    let first : get_or rest 0 0 ≡ 10 = search rules in
    let ends = first_known 10 rest c.in-10.len_at_least first in
    (c.if-place.true, split_text c.in_ok-place.place c.args.bytes.now rest (take (length rest - 1) (drop 1 rest)) c.in_ok-place.ensures.1 ends)
