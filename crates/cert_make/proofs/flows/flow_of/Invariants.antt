use Rattle.std.proofs.Common.{◌≡◌, ◌-◌, ◌≤◌, length, slice_index}
use Rattle.cert_make.specs.BoundCertificates.{terms_below}
use Rattle.cert_make.proofs.flows.flow_of.Given as goal

abbrev pub invariant-places : goal.invariant-places
invariant-places l = record {
  same : l.walk.entries ≡ l.row;
  within : l.walk.from ≤ length l.row;
  flow : l.flow ≡ terms_below l.walk.from (slice_index l.row);
}

abbrev pub decreases-places : goal.decreases-places
decreases-places l = length l.row - l.walk.from
