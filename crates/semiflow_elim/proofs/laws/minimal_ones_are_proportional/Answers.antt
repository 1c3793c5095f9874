use Rattle.semiflow_elim.specs.Laws.{is_in}
use Rattle.semiflow_elim.proofs.Minimal.{proportional}
use Rattle.semiflow_elim.proofs.laws.minimal_ones_are_proportional.Goals as goal

pub returns : goal.returns
returns c = λ m taken. proportional m (is_in taken)
