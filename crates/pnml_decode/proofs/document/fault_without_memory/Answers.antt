use Rattle.pnml_grammar.proofs.FaultLaws.{text_stops}
use Rattle.pnml_decode.proofs.document.fault_without_memory.Goals as goal

pub returns-in-Err-clause-fault : goal.returns-in-Err-clause-fault
returns-in-Err-clause-fault c = rw c.valid_up_to.ensures (text_stops c.args.bytes.now _ c.in-Err.ensures.cases.0 c.in-Err.ensures.cases.1)
