use Rattle.pnml_decode.proofs.Characters.{valid_then_cut}
use Rattle.pnml_decode.proofs.input.text_length.Goals as goal

pub returns-in-Err-clause-cut : goal.returns-in-Err-clause-cut
returns-in-Err-clause-cut c = rw c.valid_up_to.ensures (valid_then_cut c.args.bytes.now _ c.in-Err.ensures.cases.1)
