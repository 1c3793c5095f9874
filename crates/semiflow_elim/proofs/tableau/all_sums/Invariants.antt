use Rattle.std.proofs.Common.{take}
use Rattle.incidence.specs.Tables.{matrix_of}
use Rattle.semiflow_elim.specs.Bases.{in_set}
use Rattle.semiflow_elim.specs.Carried.{CarryTheirs}
use Rattle.semiflow_elim.proofs.tableau.all_sums.Given as goal

abbrev pub invariant-loop-i : goal.invariant-loop-i
invariant-loop-i l = CarryTheirs (matrix_of l.matrix) (in_set l.taken) (take l.i l.rows) l.sums.items
