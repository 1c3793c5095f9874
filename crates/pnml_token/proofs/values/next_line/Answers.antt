-- A line that isn't empty is a part.
use Rattle.std.proofs.Common.{◌==◌, sym, ap, ◌∙◌, length, List, ℕ}
use Rattle.pnml_token.proofs.PieceLaws.{run_line}
use Rattle.pnml_token.proofs.values.next_line.Goals as goal

pub returns-else-is_empty-clause-line : goal.returns-else-is_empty-clause-line
returns-else-is_empty-clause-line c =
    let some = ap (λ (t : List ℕ). length t == 0) (sym c.split_text.ensures.run) ∙ sym c.if-is_empty.ensures in
    rw (c.split_text.ensures.run, c.split_text.ensures.rest) (run_line c.args.text.now some)
