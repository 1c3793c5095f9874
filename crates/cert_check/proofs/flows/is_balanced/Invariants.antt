use Rattle.std.proofs.Common.{ℕ, ◌<◌, slice_index}
use Rattle.net_values.specs.FlatNets.{net_of}
use Rattle.cert_check.specs.Flows.{IsBalancedAt}
use Rattle.cert_check.proofs.flows.is_balanced.Given as goal

abbrev pub invariant-loop-t : goal.invariant-loop-t
invariant-loop-t l = (u : ℕ) → u < l.t → IsBalancedAt (net_of l.net) (slice_index l.y) u
