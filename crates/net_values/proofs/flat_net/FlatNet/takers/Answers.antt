use Rattle.net_values.proofs.PlaceLists.{takers_read}
use Rattle.net_values.proofs.flat_net.FlatNet.takers.Goals as goal

pub returns-clause-lists : goal.returns-clause-lists
returns-clause-lists c = rw (← c.self.view_is) (takers_read _ _ c.self.invariant c.args.p c.index.result.now (rw (← c.self.view_is) at c.requires) c.index.ensures _ c.takers.ensures.value (rw c.takers.ensures.value c.takers.ensures.lists.takers)).0

pub returns-clause-within : goal.returns-clause-within
returns-clause-within c = rw (← c.self.view_is) (takers_read _ _ c.self.invariant c.args.p c.index.result.now (rw (← c.self.view_is) at c.requires) c.index.ensures _ c.takers.ensures.value (rw c.takers.ensures.value c.takers.ensures.lists.takers)).1
