use Rattle.std.proofs.Common.{◌≡◌, slice_index}
use Rattle.cert_make.specs.BoundCertificates.{claims_below}
use Rattle.cert_make.proofs.bound_lines.claims_by.Given as goal

abbrev pub invariant-loop-p : goal.invariant-loop-p
invariant-loop-p l = l.claims ≡ claims_below (slice_index l.numbers) l.bounds l.p
