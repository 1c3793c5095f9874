use Rattle.struct_core.proofs.Orders.{one_order}
use Rattle.struct_core.proofs.laws.one_meaning.Goals as goal

pub returns : goal.returns
returns c = one_order
