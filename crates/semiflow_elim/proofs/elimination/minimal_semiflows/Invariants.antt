use Rattle.std.proofs.Common.{◌≡◌, ◌-◌}
use Rattle.incidence.specs.Tables.{matrix_of}
use Rattle.semiflow_elim.specs.FirstFail.{Reaches}
use Rattle.semiflow_elim.specs.Tableaus.{size_of}
use Rattle.semiflow_elim.proofs.elimination.minimal_semiflows.Given as goal

abbrev pub invariant-loop-tableau : goal.invariant-loop-tableau
invariant-loop-tableau l = record {
  same : l.tableau.tables ≡ l.matrix;
  reached : Reaches (matrix_of l.matrix) l.rows (size_of l.tableau.taken) l.tableau.taken;
}

abbrev pub decreases-loop-tableau : goal.decreases-loop-tableau
decreases-loop-tableau l = (matrix_of l.matrix).columns - size_of l.tableau.taken
