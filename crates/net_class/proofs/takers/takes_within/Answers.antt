use Rattle.std.proofs.Common.{◌<◌, All, refl, subst, List, arith}
use Rattle.std.proofs.lemmas.List.{take_all}
use Rattle.std.proofs.lemmas.List.Elements.{All-more}
use Rattle.net_values.specs.declared.column.WeightedPlace.{WeightedPlace}
use Rattle.net_values.specs.FlatNets.{net_of}
use Rattle.net_class.proofs.Arcs.{weighs_there}
use Rattle.net_class.proofs.takers.takes_within.Goals as goal

pub loop-entry-preserved : goal.loop-entry-preserved
loop-entry-preserved c =
    All-more (λ (entry : WeightedPlace). 0 < (net_of c.args.net.now).pre entry.place c.args.u) c.arcs-entries.result.now c.loop-entry.entry-index record { place = 0; weight = 0 } c.loop-entry-test.true c.loop-entry.invariant
    (omega (arith, c.pre.ensures.value))

pub returns : goal.returns
returns c = (
  λ _ p below weighs.
      let net = net_of c.args.net.now in
      let all = subst (λ (entries : List WeightedPlace). All (λ entry. 0 < net.pre entry.place c.args.u) entries) (take_all c.loop-entry.entry-index c.arcs-entries.result.now c.loop-entry-test.false) c.loop-entry.invariant in
      weighs_there net.places (λ q. net.pre q c.args.t) (λ q. net.pre q c.args.u) c.arcs-entries.result.now c.arcs-entries.ensures all p weighs,
  λ _. refl,
)
