-- How far the lines were read.
use Rattle.std.proofs.Common.{length}
use Rattle.branch_resume.proofs.Fronts.{IsReadTo}
use Rattle.branch_resume.proofs.reading.front_classes.Given as goal

abbrev pub invariant-lines : goal.invariant-lines
invariant-lines l = IsReadTo l.size l.fn.lines l.classes l.left

abbrev pub decreases-lines : goal.decreases-lines
decreases-lines l = length l.left
