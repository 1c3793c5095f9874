use Rattle.std.proofs.Common.{◌<◌, subst, ℕ, refl, sym, inl, inr, arith}
use Rattle.std.proofs.lemmas.Bool.{cases_eq, false≢true}
use Rattle.net_values.specs.FlatNets.{net_of}
use Rattle.net_values.specs.PlaceSets.{has}
use Rattle.closed_sets.specs.ClosedSets.{IsFed}
use Rattle.closed_sets.specs.Kinds.{seen_as}
use Rattle.closed_sets.proofs.Fed.{siphon_from_fed, fed_from_siphon}
use Rattle.closed_sets.proofs.Firsts.{before_first, before_all, none_past}
use Rattle.closed_sets.proofs.closed.is_closed.Goals as goal

pub returns-then-not-is_fed : goal.returns-then-not-is_fed
returns-then-not-is_fed c =
    let net = seen_as c.args.kind (net_of c.args.net.now) in
    let below : c.in-Some.p < net.places = let size = c.in-Some.ensures.below_size in let places = c.requires in omega arith in (
      λ never. absurd (false≢true never),
      λ siphon. c.if-not-is_fed.ensures.1 (fed_from_siphon net (has c.args.set.now) c.in-Some.p siphon below c.in-Some.ensures.member),
    )

pub loop-from-preserved : goal.loop-from-preserved
loop-from-preserved c =
    let net = seen_as c.args.kind (net_of c.args.net.now) in
    λ q below member. elim (cases_eq q c.in-Some.p) [
      | inl same ↦ subst (λ (r : ℕ). IsFed net (has c.args.set.now) r) (sym same) (c.is_fed.ensures.0 c.if-not-is_fed.false)
      | inr other ↦ c.loop-from.invariant q (before_first c.args.set.now c.loop-from.from c.in-Some.p q c.in-Some.ensures (omega arith) member) member
    ]

pub returns-in_default : goal.returns-in_default
returns-in_default c =
    let net = seen_as c.args.kind (net_of c.args.net.now) in (
      λ _. siphon_from_fed net (has c.args.set.now) (λ p below member. c.loop-from.invariant p (before_all c.args.set.now c.loop-from.from p c.in_default.ensures member) member),
      λ _. refl,
    )

pub returns : goal.returns
returns c =
    let net = seen_as c.args.kind (net_of c.args.net.now) in
    let none = (none_past c.args.set.now c.loop-from.from (let count = c.places.ensures.value in let size = c.requires in let over = c.loop-from-test.false in omega arith)) in (
      λ _. siphon_from_fed net (has c.args.set.now) (λ p below member. c.loop-from.invariant p (before_all c.args.set.now c.loop-from.from p none member) member),
      λ _. refl,
    )
