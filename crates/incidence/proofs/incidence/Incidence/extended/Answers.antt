-- The gains with their units and the losses with as many empty rows are the tables of the extended incidence.
use Rattle.std.proofs.Common.{◌∙◌, ap, ◌+◌, ℕ}
use Rattle.incidence.proofs.Extending.{extended_matrix, extended_incidence}
use Rattle.incidence.proofs.incidence.Incidence.extended.Goals as goal

pub invariant_of-result : goal.invariant_of-result
invariant_of-result c =
    extended_incidence c.args.net.now c.in_ok-gains.gains c.add_units.new.table c.in_ok-losses.losses c.add_rows.new.self c.in_ok-gains.ensures.limits c.in_ok-gains.ensures.side c.in_ok-losses.ensures.side
    c.in_ok-add_units.ensures.table c.add_rows.ensures.table c.in_ok-add_units.ensures.units
    (c.add_rows.ensures.rows ∙ ap (λ (n : ℕ). record { height = c.in_ok-losses.losses.height + n; lists = c.in_ok-losses.losses.lists }) c.transitions.ensures.value)

pub returns : goal.returns
returns c =
    extended_matrix c.args.net.now c.in_ok-gains.gains c.add_units.new.table c.in_ok-losses.losses c.add_rows.new.self c.in_ok-gains.ensures.limits c.in_ok-gains.ensures.side c.in_ok-losses.ensures.side
    c.in_ok-add_units.ensures.table c.add_rows.ensures.table c.in_ok-add_units.ensures.units
    (c.add_rows.ensures.rows ∙ ap (λ (n : ℕ). record { height = c.in_ok-losses.losses.height + n; lists = c.in_ok-losses.losses.lists }) c.transitions.ensures.value)
