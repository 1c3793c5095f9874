use Rattle.std.proofs.Common.{ℕ, List, ◌++◌, length, subst, sym, take_all, arith}
use Rattle.pnml_decode.specs.Standing.{IsTaken}
use Rattle.pnml_decode.proofs.Taken.{not_utf8_stays}
use Rattle.pnml_decode.proofs.input.Input.take_some.Goals as goal

pub returns-then-self-clause-taken : goal.returns-then-self-clause-taken
returns-then-self-clause-taken c = λ bytes taken.
    let piece = c.args.piece.now in
    subst (λ (xs : List ℕ). IsTaken c.args.self.now (bytes ++ xs)) (sym (take_all (length piece) piece (omega arith)))
    (not_utf8_stays c.args.self.now bytes piece c.if-self.true taken)
