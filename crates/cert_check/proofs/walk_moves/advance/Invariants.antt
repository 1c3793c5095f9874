use Rattle.std.proofs.Common.{◌≡◌}
use Rattle.net_values.specs.FlatNets.{net_of}
use Rattle.cert_check.specs.Walks.{IsOnWay, pending_now}
use Rattle.cert_check.proofs.walk_moves.advance.Given as goal

abbrev pub invariant-levels : goal.invariant-levels
invariant-levels l = record {
  way : IsOnWay (net_of l.net) l.walk;
  same : pending_now l.walk ≡ pending_now l.fn.walk;
}

abbrev pub decreases-levels : goal.decreases-levels
decreases-levels l = l.walk.depth
