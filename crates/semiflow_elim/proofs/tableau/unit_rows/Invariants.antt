use Rattle.semiflow_elim.specs.Bases.{AreUnits}
use Rattle.semiflow_elim.proofs.tableau.unit_rows.Given as goal

abbrev pub invariant-loop-i : goal.invariant-loop-i
invariant-loop-i l = AreUnits l.count l.rows.items l.i
