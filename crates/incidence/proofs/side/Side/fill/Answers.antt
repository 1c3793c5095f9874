use Rattle.std.proofs.Common.{ap, ◌∙◌, ℕ, sum_by}
use Rattle.std.proofs.lemmas.List.{take_all}
use Rattle.net_values.specs.FlatNets.{net_of}
use Rattle.incidence.specs.Excess.{arcs_of, back_of}
use Rattle.incidence.proofs.Entries.{left_at, left_narrow, excess_listed}
use Rattle.incidence.proofs.side.Side.fill.Goals as goal

pub add-requires-clause-narrow : goal.add-requires-clause-narrow
add-requires-clause-narrow c =
    let net = net_of c.args.net.now in
    let back = λ (p : ℕ). back_of c.args.self net p c.args.t in
    rw (c.excess-excess.ensures)
    (left_narrow net.places (λ (p : ℕ). arcs_of c.args.self net p c.args.t) back c.arcs-arcs.result.now c.arcs-arcs.ensures.lists c.arcs-arcs.ensures.narrow
    c.loop-arc.arc-index record { place = 0; weight = 0 } c.loop-arc-test.true _ (c.loop-arc.invariant.here _))

pub returns : goal.returns
returns c =
    let net = net_of c.args.net.now in
    let back = λ (p : ℕ). back_of c.args.self net p c.args.t in
    let arcs = c.arcs-arcs.result.now in
    record {
      height = c.loop-arc.invariant.height;
      width = c.loop-arc.invariant.width;
      here = λ p. c.loop-arc.invariant.here p ∙ ap (sum_by (left_at back p)) (take_all c.loop-arc.arc-index arcs c.loop-arc-test.false)
          ∙ excess_listed net.places (λ (q : ℕ). arcs_of c.args.self net q c.args.t) back arcs c.arcs-arcs.ensures.lists p;
      others = c.loop-arc.invariant.others;
    }
