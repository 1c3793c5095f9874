use Rattle.net_values.specs.FlatNets.{net_of}
use Rattle.closed_sets.proofs.OpenSets.{AreFound}
use Rattle.closed_sets.proofs.opens.find_open.Given as goal

abbrev pub invariant-loop-t : goal.invariant-loop-t
invariant-loop-t l = AreFound (net_of l.net) l.set l.opens l.t
