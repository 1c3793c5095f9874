use Rattle.incidence.specs.Tables.{matrix_of}
use Rattle.semiflow_elim.specs.Adjacent.{AloneBelow}
use Rattle.semiflow_elim.proofs.adjacent.are_adjacent.Given as goal

abbrev pub invariant-loop-j : goal.invariant-loop-j
invariant-loop-j l = AloneBelow (matrix_of l.step.matrix.now) l.step.rows.now l.i l.k l.j
