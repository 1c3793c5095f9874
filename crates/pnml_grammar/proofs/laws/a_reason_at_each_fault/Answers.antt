-- A token without a reason goes on, and one with a reason does not.
use Rattle.pnml_grammar.proofs.ReasonLaws.{rows_tell_faults}
use Rattle.pnml_grammar.proofs.laws.a_reason_at_each_fault.Goals as goal

pub returns : goal.returns
returns c = rows_tell_faults
