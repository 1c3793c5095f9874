use Rattle.std.proofs.Common.{◌≡◌, ℕ, ℤ, ◌<◌, List, length, get_or}
use Rattle.net_values.specs.FlatNets.{net_of}
use Rattle.certificates.specs.Conditions.{FlowHolds}
use Rattle.cert_check.proofs.bounds.check_flows.Given as goal

abbrev pub invariant-loop-k : goal.invariant-loop-k
invariant-loop-k l = record {
  size : length l.y ≡ length l.fn.y;
  held : (j : ℕ) (d : List (ℕ × ℤ)) → j < l.k → FlowHolds (net_of l.net) (get_or l.flows j d);
}
