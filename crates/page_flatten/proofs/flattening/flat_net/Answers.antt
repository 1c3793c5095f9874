-- The net of the nodes and the settled links give the flat net, and the arc that doesn't fit the fault.
use Rattle.std.proofs.Common.{ap, ◌∙◌, arith}
use Rattle.std.specs.List.{flat_map}
use Rattle.page_flatten.specs.Elements.{entries, arcs}
use Rattle.page_flatten.specs.Passes.{NamesWrongArc}
use Rattle.page_flatten.specs.Tables.{AddsArcs}
use Rattle.page_flatten.proofs.FaultLaws.{err_goes}
use Rattle.page_flatten.proofs.NodeLaws.{arcs_counted}
use Rattle.page_flatten.proofs.WholeLaws.{distinct_entries, wrong_arc, ends_within, arcs_join, flat_net}
use Rattle.page_flatten.proofs.flattening.flat_net.Goals as goal

pub add_arcs-requires-clause-distinct : goal.add_arcs-requires-clause-distinct
add_arcs-requires-clause-distinct c = rw (c.requires.numbered) (distinct_entries c.args.net.now c.requires.distinct)

pub add_arcs-requires-clause-within : goal.add_arcs-requires-clause-within
add_arcs-requires-clause-within c =
    ends_within c.args.net.now c.args.links.now c.requires.settled c.in_ok-flat.flat
    (c.in_ok-flat.ensures.places ∙ ap (flat_map _) c.as_slice-items.ensures) (c.in_ok-flat.ensures.transitions ∙ ap (flat_map _) c.as_slice-items.ensures)

pub add_arcs-requires-clause-room : goal.add_arcs-requires-clause-room
add_arcs-requires-clause-room c =
    rw (c.as_slice-items.ensures) (omega (arith, c.in_ok-flat.ensures.arcs.count, arcs_counted c.args.net.now.items, c.requires.fits.arcs))

pub returns-in_err-add_arcs-clause-fault : goal.returns-in_err-add_arcs-clause-fault
returns-in_err-add_arcs-clause-fault c =
    err_goes (NamesWrongArc c.args.net.now) c.from_residual-in_err-add_arcs.result _ c.from_residual-in_err-add_arcs.ensures.1
    (wrong_arc c.args.net.now c.args.links.now c.requires.settled _ (rw (c.requires.numbered, c.as_slice-items.ensures) at c.in_err-add_arcs.ensures.fault))

pub returns-clause-joins : goal.returns-clause-joins
returns-clause-joins c =
    let net = c.args.net.now in
    let adds : AddsArcs (entries net) c.args.links.now (flat_map arcs net.items) c.in_ok-flat.flat c.add_arcs.new.net = rw (c.requires.numbered, c.as_slice-items.ensures) at c.in_ok-add_arcs.ensures.ok in
    arcs_join net c.args.links.now c.requires.settled c.in_ok-flat.flat c.add_arcs.new.net adds

pub returns-clause-flat : goal.returns-clause-flat
returns-clause-flat c =
    let net = c.args.net.now in
    let adds : AddsArcs (entries net) c.args.links.now (flat_map arcs net.items) c.in_ok-flat.flat c.add_arcs.new.net = rw (c.requires.numbered, c.as_slice-items.ensures) at c.in_ok-add_arcs.ensures.ok in
    flat_net net c.args.links.now c.requires.settled c.in_ok-flat.flat c.add_arcs.new.net
    (c.in_ok-flat.ensures.places ∙ ap (flat_map _) c.as_slice-items.ensures) (c.in_ok-flat.ensures.transitions ∙ ap (flat_map _) c.as_slice-items.ensures) c.in_ok-flat.ensures.arcs adds
