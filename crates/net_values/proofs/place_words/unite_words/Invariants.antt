use Rattle.std.proofs.Common.{◌≡◌, ℕ, ◌<◌, ◌≤◌, slice_index}
use Rattle.std.specs.Int.RustNames.{bit_or}
use Rattle.net_values.proofs.place_words.unite_words.Given as goal

abbrev pub invariant-loop-k : goal.invariant-loop-k
invariant-loop-k l = record {
  united : (k : ℕ) → k < l.k → slice_index l.words k ≡ bit_or (slice_index l.initial.words k) (slice_index l.others k);
  left : (k : ℕ) → l.k ≤ k → slice_index l.words k ≡ slice_index l.initial.words k;
}
