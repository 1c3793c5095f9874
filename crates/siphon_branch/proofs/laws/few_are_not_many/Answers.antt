use Rattle.siphon_branch.proofs.Limits.{few_not_many}
use Rattle.siphon_branch.proofs.laws.few_are_not_many.Goals as goal

pub returns : goal.returns
returns c = few_not_many
