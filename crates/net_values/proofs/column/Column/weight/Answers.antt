use Rattle.net_values.proofs.Columns.{weight_found, weight_missing}
use Rattle.net_values.proofs.column.Column.weight.Goals as goal

pub returns-in-Ok : goal.returns-in-Ok
returns-in-Ok c =
    rw (← c.self.view_is)
    (weight_found c.self.inside.entries.items _ _ _ c.self.invariant (rw c.as_slice.ensures.value at c.in-Ok.ensures) c.index.ensures)

pub returns-in-Err : goal.returns-in-Err
returns-in-Err c =
    rw (← c.self.view_is)
    (weight_missing c.self.inside.entries.items _ _ (rw c.as_slice.ensures.value at c.in-Err.ensures))
