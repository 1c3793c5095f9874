use Rattle.std.proofs.Common.{◌≡◌, ℕ, length}
use Rattle.net_values.specs.PlaceSets.{has}
use Rattle.closed_sets.specs.ClosedSets.{any_below}
use Rattle.bounds.specs.Listed.{kept_at, told}
use Rattle.cert_make.specs.BoundCertificates.{names}
use Rattle.cert_make.proofs.bound_lines.named_rows.Given as goal

abbrev pub invariant-loop-p : goal.invariant-loop-p
invariant-loop-p l =
    record {
      size : length l.named.items ≡ l.rows;
      exact : (k : ℕ) → has l.named.items k ≡ any_below l.p (λ p. names (told (kept_at l.bounds p)) k);
    }
