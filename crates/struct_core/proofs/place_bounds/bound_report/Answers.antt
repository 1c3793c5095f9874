-- The text of the bounds, or the first wide semiflow, or the step that fails.
use Rattle.net_values.specs.FlatNets.{net_of}
use Rattle.net_values.specs.Nodes.{place_id, transition_id}
use Rattle.struct_core.proofs.Judging.{bounds_told, bounds_refused, wide_refused}
use Rattle.struct_core.proofs.place_bounds.bound_report.Goals as goal

pub returns-in_err-rows-clause-refused : goal.returns-in_err-rows-clause-refused
returns-in_err-rows-clause-refused c = bounds_refused _ _ _ _ c.from_residual.result _ c.from_residual.ensures.1 c.in_err-rows.ensures.refused

pub returns-in_err-bounds-clause-refused : goal.returns-in_err-bounds-clause-refused
returns-in_err-bounds-clause-refused c =
    wide_refused _ _ _ _ _ c.from_residual-in_err-bounds.result _ c.from_residual-in_err-bounds.ensures.1 c.in_ok-rows.ensures.listed c.in_err-bounds.ensures.refused

pub returns-clause-text : goal.returns-clause-text
returns-clause-text c =
    bounds_told (net_of c.args.net.now) (place_id c.args.net.now) (transition_id c.args.net.now) c.args.budget _ _ _ c.in_ok-rows.ensures.listed c.in_ok-bounds.ensures.narrow c.in_ok-bounds.ensures.places c.in_ok-bounds.ensures.least c.in_ok-bounds_text.ensures
