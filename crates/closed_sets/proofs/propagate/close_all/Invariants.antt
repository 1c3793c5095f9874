use Rattle.net_values.specs.FlatNets.{net_of}
use Rattle.closed_sets.specs.Falling.{ClosesAll}
use Rattle.closed_sets.specs.Kinds.{seen_as}
use Rattle.closed_sets.proofs.propagate.close_all.Given as goal

abbrev pub invariant-loop-t : goal.invariant-loop-t
invariant-loop-t l = ClosesAll (seen_as l.kind (net_of l.net)) l.guard l.transitions l.t-index l.fn.set l.set l.fn.fallen l.fallen
