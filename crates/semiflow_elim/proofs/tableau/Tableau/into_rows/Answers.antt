use Rattle.std.proofs.Common.{subst}
use Rattle.incidence.specs.Tables.{matrix_of}
use Rattle.semiflow_elim.specs.Bases.{AreMinimal, IsBasis, in_set}
use Rattle.semiflow_elim.specs.Tableaus.{TableauValue}
use Rattle.semiflow_elim.proofs.Rows.{basis_minimal}
use Rattle.semiflow_elim.proofs.tableau.Tableau.into_rows.Goals as goal

pub returns-clause-minimal : goal.returns-clause-minimal
returns-clause-minimal c =
    subst (λ (t : TableauValue). AreMinimal (matrix_of t.tables) (in_set t.taken) t.rows) c.self.view_is (basis_minimal _ _ _ c.self.invariant.basis)

pub returns-clause-basis : goal.returns-clause-basis
returns-clause-basis c =
    subst (λ (t : TableauValue). IsBasis (matrix_of t.tables) (in_set t.taken) t.rows) c.self.view_is c.self.invariant.basis

pub from_members-requires : goal.from_members-requires
from_members-requires c = record { common = _; alike = c.self.invariant.basis.size }
