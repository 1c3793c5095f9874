use Rattle.std.proofs.Common.{◌-◌, length}
use Rattle.net_values.specs.FlatNets.{net_of}
use Rattle.closed_sets.specs.Kinds.{seen_as}
use Rattle.closed_sets.specs.declared.kind.Kind.TheVariants.{Trap}
use Rattle.closed_sets.proofs.LeavingSets.{IsClosedBefore}
use Rattle.closed_sets.proofs.marked.close_leaving.Given as goal

abbrev pub invariant-loop-from : goal.invariant-loop-from
invariant-loop-from l = IsClosedBefore (seen_as Trap (net_of l.net)) l.leaving l.fn.set l.set l.fallen l.from

abbrev pub decreases-loop-from : goal.decreases-loop-from
decreases-loop-from l = length l.leaving - l.from
