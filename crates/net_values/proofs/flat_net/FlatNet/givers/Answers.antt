use Rattle.net_values.proofs.PlaceLists.{givers_read}
use Rattle.net_values.proofs.flat_net.FlatNet.givers.Goals as goal

pub returns-clause-lists : goal.returns-clause-lists
returns-clause-lists c = rw (← c.self.view_is) (givers_read _ _ c.self.invariant c.args.p c.index.result.now (rw (← c.self.view_is) at c.requires) c.index.ensures _ c.givers.ensures.value (rw c.givers.ensures.value c.givers.ensures.lists.givers)).0

pub returns-clause-within : goal.returns-clause-within
returns-clause-within c = rw (← c.self.view_is) (givers_read _ _ c.self.invariant c.args.p c.index.result.now (rw (← c.self.view_is) at c.requires) c.index.ensures _ c.givers.ensures.value (rw c.givers.ensures.value c.givers.ensures.lists.givers)).1
