use Rattle.net_values.specs.FlatNets.{net_of}
use Rattle.bounds.proofs.AllPlaces.{AreBounded}
use Rattle.bounds.proofs.least_bounds.bounds.Given as goal

abbrev pub invariant-loop-number : goal.invariant-loop-number
invariant-loop-number l = AreBounded (net_of l.net) l.rows l.number l.bounds.items
