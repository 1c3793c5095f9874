use Rattle.std.proofs.Common.{subst, ◌≡◌, length}
use Rattle.incidence.specs.Tables.{matrix_of}
use Rattle.semiflow_elim.specs.Bases.{AreMinimal, in_set}
use Rattle.semiflow_elim.specs.Tableaus.{TableauValue, size_of}
use Rattle.semiflow_elim.proofs.Rows.{basis_minimal}
use Rattle.semiflow_elim.proofs.tableau.Tableau.done.Goals as goal

pub returns-clause-value : goal.returns-clause-value
returns-clause-value c =
    subst (λ (t : TableauValue). c.self.inside.done ≡ size_of t.taken) c.self.view_is c.self.invariant.count

pub returns-clause-columns : goal.returns-clause-columns
returns-clause-columns c =
    subst (λ (t : TableauValue). length t.taken ≡ (matrix_of t.tables).columns) c.self.view_is c.self.invariant.columns

pub returns-clause-minimal : goal.returns-clause-minimal
returns-clause-minimal c =
    subst (λ (t : TableauValue). AreMinimal (matrix_of t.tables) (in_set t.taken) t.rows) c.self.view_is (basis_minimal _ _ _ c.self.invariant.basis)
