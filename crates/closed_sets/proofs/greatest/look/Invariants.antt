use Rattle.std.proofs.Common.{◌-◌, length}
use Rattle.net_values.specs.FlatNets.{net_of}
use Rattle.closed_sets.specs.Kinds.{seen_as}
use Rattle.closed_sets.proofs.Settling.{IsLooked}
use Rattle.closed_sets.proofs.greatest.look.Given as goal

abbrev pub invariant-loop-from : goal.invariant-loop-from
invariant-loop-from l = IsLooked (seen_as l.kind (net_of l.net)) l.fn.set l.set l.fallen l.from

abbrev pub decreases-loop-from : goal.decreases-loop-from
decreases-loop-from l = length l.fn.set - l.from
