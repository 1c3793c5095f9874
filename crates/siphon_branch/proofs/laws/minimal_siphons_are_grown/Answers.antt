use Rattle.siphon_branch.proofs.MinimalGrown.{minimal_grown}
use Rattle.siphon_branch.proofs.laws.minimal_siphons_are_grown.Goals as goal

pub returns : goal.returns
returns c = minimal_grown
