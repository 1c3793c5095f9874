use Rattle.std.proofs.Common.{◌≡◌}
use Rattle.net_values.specs.PlaceSets.{has}
use Rattle.cert_make.specs.PlaceLists.{places_below}
use Rattle.cert_make.proofs.bad_siphon.bad_siphon_certificate.Given as goal

abbrev pub invariant-loop-p : goal.invariant-loop-p
invariant-loop-p l = l.places ≡ places_below l.p (has l.siphon)
