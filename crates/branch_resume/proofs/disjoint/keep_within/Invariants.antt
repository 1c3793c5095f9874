use Rattle.std.proofs.Common.{◌≡◌, ◌-◌, ◌<◌, ℕ, length}
use Rattle.std.specs.Prelude.{IsTrue}
use Rattle.net_values.specs.PlaceSets.{has}
use Rattle.branch_resume.proofs.disjoint.keep_within.Given as goal

abbrev pub invariant-places : goal.invariant-places
invariant-places l =
    ((q : ℕ) → IsTrue (has l.set q) → IsTrue (has l.fn.set q))
    × ((q : ℕ) → q < l.from → IsTrue (has l.set q) → IsTrue (has l.other q))
    × (length l.set ≡ length l.fn.set)

abbrev pub decreases-places : goal.decreases-places
decreases-places l = length l.set - l.from
