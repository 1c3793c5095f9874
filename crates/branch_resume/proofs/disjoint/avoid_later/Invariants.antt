use Rattle.std.proofs.Common.{◌≡◌, length}
use Rattle.branch_resume.proofs.Apart.{ArePartedFrom}
use Rattle.branch_resume.proofs.disjoint.avoid_later.Given as goal

abbrev pub invariant-classes : goal.invariant-classes
invariant-classes l = ArePartedFrom l.classes l.first l.common × (length l.common ≡ l._places)

abbrev pub decreases-classes : goal.decreases-classes
decreases-classes l = l.first
