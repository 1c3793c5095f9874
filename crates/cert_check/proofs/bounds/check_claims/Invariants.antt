use Rattle.std.proofs.Common.{◌≡◌, ℕ, ◌<◌, length, get_or}
use Rattle.net_values.specs.FlatNets.{net_of}
use Rattle.certificates.specs.Conditions.{ClaimHolds}
use Rattle.certificates.specs.declared.certificate.Claim.{Claim}
use Rattle.cert_check.proofs.bounds.check_claims.Given as goal

abbrev pub invariant-loop-k : goal.invariant-loop-k
invariant-loop-k l = record {
  size : length l.y ≡ length l.fn.y;
  held : (j : ℕ) (d : Claim) → j < l.k → ClaimHolds (net_of l.net) l.flows (get_or l.claims j d);
}
