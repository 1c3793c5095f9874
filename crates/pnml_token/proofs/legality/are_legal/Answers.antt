use Rattle.pnml_token.proofs.LegalTexts.{legal_text, no_legal_text}
use Rattle.pnml_token.proofs.legality.are_legal.Goals as goal

pub returns-in-Ok : goal.returns-in-Ok
returns-in-Ok c = legal_text c.in-Ok.text.now c.args.bytes.now c.is_text_of_legal.result c.in-Ok.ensures.cases c.is_text_of_legal.ensures

pub returns-in-Err : goal.returns-in-Err
returns-in-Err c = no_legal_text c.args.bytes.now c.in-Err.ensures.cases.0
