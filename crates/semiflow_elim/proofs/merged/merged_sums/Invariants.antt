use Rattle.std.proofs.Common.{ℕ, ◌+◌, length}
use Rattle.incidence.specs.Tables.{matrix_of}
use Rattle.semiflow_elim.specs.Bases.{in_set}
use Rattle.semiflow_elim.specs.Merged.{AreMerged}
use Rattle.semiflow_elim.proofs.merged.merged_sums.Given as goal

abbrev pub invariant-columns : goal.invariant-columns
invariant-columns l = (n : ℕ) × AreMerged (matrix_of l.matrix) (in_set l.after) l.row l.first l.second l.left l.right n l.sums

abbrev pub decreases-columns : goal.decreases-columns
decreases-columns l = length l.left + length l.right
