use Rattle.pnml_token.proofs.Texts.{text_is, no_text}
use Rattle.pnml_token.proofs.values.short_text_in.Goals as goal

pub returns-in-Ok : goal.returns-in-Ok
returns-in-Ok c = text_is c.in-Ok.text.now c.args.bytes.now c.in-Ok.ensures.cases

pub returns-in-Err : goal.returns-in-Err
returns-in-Err c = no_text c.args.bytes.now c.in-Err.ensures.cases.0
