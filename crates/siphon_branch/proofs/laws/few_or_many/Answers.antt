use Rattle.siphon_branch.proofs.Limits.{few_or_many}
use Rattle.siphon_branch.proofs.laws.few_or_many.Goals as goal

pub returns : goal.returns
returns c = few_or_many
