use Rattle.page_flatten.proofs.OneAnswer.{one_flat}
use Rattle.page_flatten.proofs.laws.one_flat_net.Goals as goal

pub returns : goal.returns
returns c = one_flat
