use Rattle.std.proofs.Common.{◌+◌, length}
use Rattle.net_values.specs.FlatNets.{net_of}
use Rattle.closed_sets.specs.Falling.{IsFalling}
use Rattle.closed_sets.specs.Kinds.{seen_as}
use Rattle.closed_sets.specs.Passes.{members}
use Rattle.closed_sets.proofs.propagate.propagate.Given as goal

abbrev pub invariant-fallen : goal.invariant-fallen
invariant-fallen l = IsFalling (seen_as l.kind (net_of l.net)) l.guard l.fn.set l.set l.fallen

-- each place that falls is looked at once
abbrev pub decreases-fallen : goal.decreases-fallen
decreases-fallen l = length l.fallen + members l.set
