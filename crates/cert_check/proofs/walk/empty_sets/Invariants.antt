use Rattle.std.proofs.Common.{◌≡◌, false, replicate}
use Rattle.cert_check.proofs.walk.empty_sets.Given as goal

abbrev pub invariant-loop-place : goal.invariant-loop-place
invariant-loop-place l = l.sets.items ≡ replicate l._place (replicate l.places false)
