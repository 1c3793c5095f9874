-- The text of the list, or the step that fails.
use Rattle.struct_core.proofs.Listing.{semiflows_told, semiflows_refused}
use Rattle.struct_core.proofs.semiflows.semiflow_report.Goals as goal

pub returns-in_err-rows-clause-refused : goal.returns-in_err-rows-clause-refused
returns-in_err-rows-clause-refused c = semiflows_refused _ _ _ _ c.from_residual.result _ c.from_residual.ensures.1 c.in_err-rows.ensures.refused

pub returns-clause-text : goal.returns-clause-text
returns-clause-text c = semiflows_told _ _ _ _ _ _ c.in_ok-rows.ensures.listed c.in_ok-text_of.ensures
