use Rattle.semiflow_elim.specs.Laws.{is_in}
use Rattle.semiflow_elim.proofs.Generation.{basis_generates}
use Rattle.semiflow_elim.proofs.laws.bases_generate.Goals as goal

pub returns : goal.returns
returns c = λ m taken. basis_generates m (is_in taken)
