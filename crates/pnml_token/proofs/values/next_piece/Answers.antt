-- A run that isn't empty is a part.
use Rattle.std.proofs.Common.{◌==◌, sym, ap, ◌∙◌, length, List, ℕ}
use Rattle.pnml_token.proofs.PieceLaws.{run_piece}
use Rattle.pnml_token.proofs.values.next_piece.Goals as goal

pub returns-else-is_empty-clause-found : goal.returns-else-is_empty-clause-found
returns-else-is_empty-clause-found c =
    let some = ap (λ (t : List ℕ). length t == 0) (sym c.split_text.ensures.run) ∙ sym c.if-is_empty.ensures in
    rw (c.split_text.ensures.run, c.split_text.ensures.rest) (run_piece c.args.spaces c.args.text.now some)
