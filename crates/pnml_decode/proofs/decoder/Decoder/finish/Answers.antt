use Rattle.pnml_decode.proofs.Arrivals.{if_err}
use Rattle.pnml_decode.proofs.decoder.Decoder.finish.Goals as goal

pub returns-clause-fault : goal.returns-clause-fault
returns-clause-fault c = if_err c.finish.result _ _ (λ refusal fault bytes stands. fault bytes stands.taken) c.finish.ensures.fault
