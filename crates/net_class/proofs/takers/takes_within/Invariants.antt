use Rattle.std.proofs.Common.{◌<◌, All, take}
use Rattle.net_values.specs.declared.column.WeightedPlace.{WeightedPlace}
use Rattle.net_values.specs.FlatNets.{net_of}
use Rattle.net_class.proofs.takers.takes_within.Given as goal

abbrev pub invariant-loop-entry : goal.invariant-loop-entry
invariant-loop-entry l = All (λ (entry : WeightedPlace). 0 < (net_of l.net).pre entry.place l.u) (take l.entry-index l.entries)
