use Rattle.std.proofs.Common.{◌-◌, ◌<◌, ℕ, length}
use Rattle.std.specs.Prelude.{IsTrue}
use Rattle.net_values.specs.PlaceSets.{has}
use Rattle.branch_resume.proofs.disjoint.have_common.Given as goal

abbrev pub invariant-places : goal.invariant-places
invariant-places l = (q : ℕ) → q < l.from → IsTrue (has l.one q) → IsTrue (has l.other q) → ⊥

abbrev pub decreases-places : goal.decreases-places
decreases-places l = length l.one - l.from
