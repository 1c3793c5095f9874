-- The certificate, the first wide sum, or what keeps `bounds` from its text.
use Rattle.std.proofs.Common.{◌∙◌}
use Rattle.net_values.specs.FlatNets.{net_of}
use Rattle.net_values.specs.Nodes.{place_id, transition_id}
use Rattle.pnml_grammar.specs.Canon.{canon}
use Rattle.struct_core.proofs.Certifying.{no_rows, wide_row, bounds_made, wide_check_told}
use Rattle.struct_core.proofs.certified.bounds_certified.Goals as goal

pub returns-in_err-rows-clause-refused : goal.returns-in_err-rows-clause-refused
returns-in_err-rows-clause-refused c = no_rows _ _ _ _ _ c.from_residual.result _ c.from_residual.ensures.1 c.in_err-rows.ensures.refused

pub returns-in_err-bounds-clause-refused : goal.returns-in_err-bounds-clause-refused
returns-in_err-bounds-clause-refused c =
    wide_row _ _ _ _ _ _ c.from_residual-in_err-bounds.result _ c.from_residual-in_err-bounds.ensures.1 c.in_ok-rows.ensures.listed c.in_err-bounds.ensures.refused

pub returns-in-Ok-clause-text : goal.returns-in-Ok-clause-text
returns-in-Ok-clause-text c =
    bounds_made (net_of c.args.net.now) (canon c.args.document.now) (place_id c.args.net.now) (transition_id c.args.net.now) c.args.budget _ _ c.in_ok-rows.ensures.listed c.in_ok-bounds.ensures.narrow c.in_ok-bounds.ensures.places c.in_ok-bounds.ensures.least c.in_ok-bounds.ensures.first _ _ c.in-Ok.ensures.exact c.in-Ok.ensures.narrow c.in_ok-certified_text-in-Ok.ensures

pub returns-in-Err-WideCheck-clause-refused : goal.returns-in-Err-WideCheck-clause-refused
returns-in-Err-WideCheck-clause-refused c =
    wide_check_told (net_of c.args.net.now) (canon c.args.document.now) (place_id c.args.net.now) (transition_id c.args.net.now) c.args.budget _ _ c.in_ok-rows.ensures.listed c.in_ok-bounds.ensures.narrow c.in_ok-bounds.ensures.places c.in_ok-bounds.ensures.least c.in_ok-bounds.ensures.first _ _ _ _ c.in-Err-WideCheck.field-0-is c.in-Err-WideCheck.ensures.fault (c.in_ok-id-in-Err-WideCheck.ensures ∙ c.transition_id.ensures)
