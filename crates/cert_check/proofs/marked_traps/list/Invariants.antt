use Rattle.std.proofs.Common.{◌≡◌, ℕ, length, take}
use Rattle.net_values.specs.PlaceSets.{has}
use Rattle.certificates.specs.Conditions.{is_listed}
use Rattle.cert_check.proofs.marked_traps.list.Given as goal

abbrev pub invariant-loop-place : goal.invariant-loop-place
invariant-loop-place l = record {
  size : length l.set ≡ length l.fn.set;
  listed : (p : ℕ) → has l.set p ≡ is_listed (take l.place-index l.places) p;
}
