-- How far the words were taken.
use Rattle.std.proofs.Common.{length}
use Rattle.branch_resume.proofs.Places.{IsTaken}
use Rattle.branch_resume.proofs.class_lines.take_places.Given as goal

abbrev pub invariant-words : goal.invariant-words
invariant-words l = IsTaken l.sign (length l.fn.set) l.fn.words l.set l.least l.left

abbrev pub decreases-words : goal.decreases-words
decreases-words l = length l.left
