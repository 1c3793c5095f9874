-- The list of the matrix of the kind, or the step that fails.
use Rattle.struct_core.proofs.Listing.{generated_for, listed_for, rows_sized, failure_as}
use Rattle.struct_core.proofs.semiflows.list_semiflows.Goals as goal

pub returns-in-Ok-clause-listed : goal.returns-in-Ok-clause-listed
returns-in-Ok-clause-listed c = listed_for _ _ _ _ c.in_ok-matrix.ensures.is c.in-Ok.ensures.passes c.in-Ok.ensures.list

pub returns-in-Ok-clause-sizes : goal.returns-in-Ok-clause-sizes
returns-in-Ok-clause-sizes c = rows_sized _ _ _ c.in_ok-matrix.ensures.sized.rows c.in-Ok.ensures.list

pub returns-clause-refused : goal.returns-clause-refused
returns-clause-refused c = failure_as _ _ _ _ c.refusal_of.result c.in_ok-matrix.ensures.is (rw c.other.ensures at c.refusal_of.ensures)

pub returns-in-Ok-clause-generates : goal.returns-in-Ok-clause-generates
returns-in-Ok-clause-generates c = generated_for _ _ _ c.in_ok-matrix.ensures.is c.in-Ok.ensures.generates
