use Rattle.net_values.specs.FlatNets.{net_of}
use Rattle.incidence.proofs.Extending.{HasUnits}
use Rattle.incidence.proofs.units.add_units.Given as goal

abbrev pub invariant-loop-t : goal.invariant-loop-t
invariant-loop-t l = HasUnits l.fn.table l.table (net_of l.net) l.t
