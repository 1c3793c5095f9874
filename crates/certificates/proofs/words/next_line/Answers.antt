-- What follows the first line begins with its line feed.
use Rattle.std.proofs.Common.{arith}
use Rattle.certificates.proofs.Cuts.{line_behind}
use Rattle.certificates.proofs.words.next_line.Goals as goal

pub returns-in-len1-up : goal.returns-in-len1-up
returns-in-len1-up c =
    let following = line_behind c.args.bytes.now c.split.result.1.now c.split.ensures.rest c.in-len1-up.len_at_least in
    record { parts = (c.split.ensures.first, omega (arith, following.1, c.split.ensures.size), following.0) }
