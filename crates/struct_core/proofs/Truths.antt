-- Two tests of the same are equal.
use Rattle.std.proofs.Common.{◌≡◌}
use Rattle.std.specs.Prelude.{Bool, IsTrue, ◌↔◌}
use Rattle.closed_sets.proofs.Below.{same_bools}

pub same_answer : (one other : Bool) (P : Type 0) → IsTrue one ↔ P → IsTrue other ↔ P → one ≡ other
same_answer one other P is also = same_bools one other (λ h. also.1 (is.0 h)) (λ h. is.1 (also.0 h))
