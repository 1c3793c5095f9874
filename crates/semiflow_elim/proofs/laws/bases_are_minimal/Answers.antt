use Rattle.semiflow_elim.specs.Laws.{is_in}
use Rattle.semiflow_elim.proofs.Rows.{basis_minimal}
use Rattle.semiflow_elim.proofs.laws.bases_are_minimal.Goals as goal

pub returns : goal.returns
returns c = λ m taken. basis_minimal m (is_in taken)
