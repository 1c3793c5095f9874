use Rattle.semiflow_elim.proofs.ColumnOrder.{order_is_free}
use Rattle.semiflow_elim.proofs.laws.order_is_free.Goals as goal

pub returns : goal.returns
returns c = order_is_free
