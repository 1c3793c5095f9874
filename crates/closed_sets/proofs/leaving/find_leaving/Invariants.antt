use Rattle.std.proofs.Common.{◌≡◌, ◌<◌, ◌≤◌, length}
use Rattle.net_values.specs.FlatNets.{net_of}
use Rattle.net_values.specs.declared.limits.TheConstants.{MAX_TRANSITIONS}
use Rattle.closed_sets.proofs.LeavingSets.{AreFoundBefore}
use Rattle.closed_sets.proofs.leaving.find_leaving.Given as goal

abbrev pub invariant-loop-t : goal.invariant-loop-t
invariant-loop-t l = record {
  size : length l.leaving ≡ length l.fn.leaving;
  found : AreFoundBefore (net_of l.net) l.set l.leaving l.t;
  few : 0 < l.t → (net_of l.net).transitions ≤ MAX_TRANSITIONS;
}
