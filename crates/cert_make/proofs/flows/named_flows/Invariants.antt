use Rattle.std.proofs.Common.{◌≡◌}
use Rattle.net_values.specs.FlatNets.{net_of}
use Rattle.net_values.specs.PlaceSets.{has}
use Rattle.cert_make.specs.BoundCertificates.{flows_below, AreNarrowFlows}
use Rattle.cert_make.specs.Making.{AreNumbers, AreVectors}
use Rattle.cert_make.proofs.flows.named_flows.Given as goal

abbrev pub invariant-loop-k : goal.invariant-loop-k
invariant-loop-k l =
    record {
      flows : l.flows ≡ flows_below l.rows (has l.named) l.k;
      numbers : AreNumbers l.rows (has l.named) l.k l.numbers;
      narrow : AreNarrowFlows (net_of l.net) l.rows (has l.named) l.k;
      vectors : AreVectors l.rows (has l.named) l.k;
    }
