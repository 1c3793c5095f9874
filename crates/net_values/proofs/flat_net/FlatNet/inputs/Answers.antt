use Rattle.net_values.proofs.FlatNets.{inputs_of, read_entries}
use Rattle.net_values.proofs.flat_net.FlatNet.inputs.Goals as goal

pub returns-clause-lists : goal.returns-clause-lists
returns-clause-lists c = rw (← c.self.view_is) (read_entries inputs_of _ _ _ _ c.index.result.now c.as_slice.result.now c.self.invariant.net.pre c.self.invariant.net.arcs (rw (← c.self.view_is) at c.requires) c.index.ensures c.as_slice.ensures.value (rw c.as_slice.ensures.value c.as_slice.ensures.column)).0

pub returns-clause-narrow : goal.returns-clause-narrow
returns-clause-narrow c = (read_entries inputs_of _ _ _ _ c.index.result.now c.as_slice.result.now c.self.invariant.net.pre c.self.invariant.net.arcs (rw (← c.self.view_is) at c.requires) c.index.ensures c.as_slice.ensures.value (rw c.as_slice.ensures.value c.as_slice.ensures.column)).1
