-- the total is the sum over the places that were passed, and narrow
use Rattle.std.proofs.Common.{◌≡◌, ◌-◌, ◌*◌, ◌<◌, ◌≤◌, ◌^◌, length, slice_index}
use Rattle.net_values.specs.FlatNets.{net_of}
use Rattle.incidence.specs.Sums.{sum_below}
use Rattle.incidence.proofs.tokens.initial_tokens.Given as goal

abbrev pub invariant-places : goal.invariant-places
invariant-places l =
    record {
      same : l.walk.entries ≡ l.factors;
      within : l.walk.from ≤ length l.factors;
      total : l.total ≡ sum_below l.walk.from (λ q. slice_index l.factors q * (net_of l.net).initial q);
      narrow : l.total < 2 ^ 127;
    }

abbrev pub decreases-places : goal.decreases-places
decreases-places l = length l.factors - l.walk.from
