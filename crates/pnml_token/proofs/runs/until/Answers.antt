-- Where the part is found first, and where it is nowhere.
use Rattle.std.proofs.Common.{◌+◌, Some, take, sym, ap, ◌∙◌, List, ℕ, length}
use Rattle.std.proofs.lemmas.List.{take_rest}
use Rattle.pnml_token.proofs.Offsets.{found_until, none_until}
use Rattle.pnml_token.proofs.runs.until.Goals as goal

pub returns-in_err-offset : goal.returns-in_err-offset
returns-in_err-offset c = rw c.from_residual.ensures (sym (none_until c.args.part.now c.args.bytes.now c.in_err-offset.ensures))

pub returns : goal.returns
returns c =
    ap (λ (t : List ℕ). Some (take c.in_ok-offset.offset c.args.bytes.now, t)) (take_rest c.args.bytes.now (c.in_ok-offset.offset + length c.args.part.now))
    ∙ sym (found_until c.args.part.now c.args.bytes.now c.in_ok-offset.offset c.in_ok-offset.ensures)
