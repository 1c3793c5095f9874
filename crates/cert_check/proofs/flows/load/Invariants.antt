use Rattle.std.proofs.Common.{◌≡◌, ℕ, ◌-◌, length, drop, slice_index}
use Rattle.certificates.specs.Conditions.{vector_of}
use Rattle.cert_check.proofs.flows.load.Given as goal

abbrev pub invariant-loop-k : goal.invariant-loop-k
invariant-loop-k l = record {
  size : length l.y ≡ length l.fn.y;
  vector : (p : ℕ) → slice_index l.y p ≡ vector_of (drop (l.count - l.k) l.flow) p;
}
