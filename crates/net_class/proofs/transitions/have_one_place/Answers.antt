use Rattle.std.proofs.Common.{subst, refl, sym, inl, inr, ◌<◌, arith}
use Rattle.std.proofs.lemmas.Bool.{cases_eq, false≢true}
use Rattle.net_values.specs.FlatNets.{net_of}
use Rattle.net_class.specs.Classes.{HasOne}
use Rattle.net_class.specs.Neighbours.{weights_of}
use Rattle.net_class.proofs.Arcs.{one_from_length, length_from_one}
use Rattle.net_class.proofs.transitions.have_one_place.Goals as goal

pub returns-then-arcs-ne1 : goal.returns-then-arcs-ne1
returns-then-arcs-ne1 c = (
  λ never. absurd (false≢true never),
  λ each. absurd (c.if-arcs-ne1.true (length_from_one _ _ c.arcs.result.now c.arcs.ensures (each c.loop-t.t (omega (arith, c.transitions-t-end.ensures.value))))),
)

pub loop-t-preserved : goal.loop-t-preserved
loop-t-preserved c = λ u below. elim (cases_eq u c.loop-t.t) [
  | inl same ↦
      let net = net_of c.args.net.now in
      subst (λ v. HasOne net.places (λ p. 0 < weights_of c.args.neighbours net p v)) (sym same)
      (one_from_length _ _ c.arcs.result.now c.arcs.ensures c.if-arcs-ne1.false)
  | inr other ↦ c.loop-t.invariant u (omega arith)
]

pub returns : goal.returns
returns c = (
  λ _ t below. c.loop-t.invariant t (omega (arith, c.transitions-t-end.ensures.value)),
  λ _. refl,
)
