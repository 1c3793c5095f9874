use Rattle.std.proofs.Common.{sym, subst, ◌<◌, arith}
use Rattle.incidence.specs.Tables.{matrix_of}
use Rattle.semiflow_elim.specs.Tableaus.{TableauValue, size_of}
use Rattle.semiflow_elim.proofs.TakenSets.{one_left}
use Rattle.semiflow_elim.proofs.tableau.Tableau.step.Goals as goal

pub take_column-requires-clause-left : goal.take_column-requires-clause-left
take_column-requires-clause-left c =
    let left : size_of c.self.inside.taken < (matrix_of c.self.inside.matrix.now).columns = subst (λ (t : TableauValue). size_of t.taken < (matrix_of t.tables).columns) (sym c.self.view_is) c.requires in
    let columns = c.self.invariant.columns in
    one_left c.self.inside.taken (omega arith)
