use Rattle.std.proofs.Common.{◌≡◌, length}
use Rattle.net_values.specs.FlatNets.{net_of}
use Rattle.closed_sets.proofs.LeavingSets.{AreLookedAt}
use Rattle.closed_sets.proofs.leaving.set_right.Given as goal

abbrev pub invariant-loop-t : goal.invariant-loop-t
invariant-loop-t l = (length l.leaving ≡ length l.fn.leaving) × AreLookedAt (net_of l.net) l.transitions l.t-index l.set l.fn.leaving l.leaving
