use Rattle.std.proofs.Common.{◌≡◌, sym, ◌∙◌, refl, arith}
use Rattle.net_values.specs.FlatNets.{net_of}
use Rattle.net_class.specs.Neighbours.{weights_of}
use Rattle.net_class.proofs.Walks.{shares, found, not_found, two_transitions, owns}
use Rattle.net_class.proofs.places.own_all.Goals as goal

pub returns-then-is_some-clause-owners : goal.returns-then-is_some-clause-owners
returns-then-is_some-clause-owners c =
    let net = net_of c.args.net.now in
    let weights = weights_of c.args.neighbours net in
    let owned = found c.arcs-entries.result.now c.loop-t.owners _ c.first_owner.ensures (sym c.is_some.ensures ∙ c.if-is_some.true) in
    two_transitions net weights c.loop-t.t owned.0 (omega (arith, c.transitions-t-end.ensures.value))
    (shares net weights (λ t u. t ≡ u) c.loop-t.t owned.0 c.arcs-entries.result.now c.loop-t.owners c.loop-t.invariant.1 c.arcs-entries.ensures owned.1)

pub loop-t-preserved : goal.loop-t-preserved
loop-t-preserved c =
    let net = net_of c.args.net.now in
    let weights = weights_of c.args.neighbours net in
    let none = not_found c.arcs-entries.result.now c.loop-t.owners _ c.first_owner.ensures (sym c.is_some.ensures ∙ c.if-is_some.false) in
    (c.own.auto.owners ∙ c.loop-t.invariant.0, owns net weights (λ t u. t ≡ u) c.loop-t.t c.arcs-entries.result.now c.loop-t.owners _ c.loop-t.invariant.1 c.arcs-entries.ensures none c.own.ensures refl)
