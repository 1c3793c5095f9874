use Rattle.std.proofs.Common.{◌≡◌, ◌<◌, refl, sym, subst, ℕ, inl, inr, arith}
use Rattle.std.proofs.lemmas.Bool.{cases_eq, false≢true}
use Rattle.net_values.specs.FlatNets.{net_of}
use Rattle.net_values.specs.PlaceSets.{has}
use Rattle.closed_sets.proofs.Below.{pair_at, pair_from}
use Rattle.closed_sets.proofs.Firsts.{before_first, before_all, none_past}
use Rattle.closed_sets.proofs.marked.is_marked.Goals as goal

pub returns-then-initial-gt0 : goal.returns-then-initial-gt0
returns-then-initial-gt0 c =
    let net = net_of c.args.net.now in
    let below : c.in-Some.p < net.places = let size = c.in-Some.ensures.below_size in let places = c.requires in omega arith in
    let positive : 0 < net.initial c.in-Some.p = let value = c.initial.ensures in let some = c.if-initial-gt0.true in omega arith in
    (λ _. pair_at net.places (has c.args.set.now) net.initial c.in-Some.p below c.in-Some.ensures.member positive, λ _. refl)

pub loop-from-preserved : goal.loop-from-preserved
loop-from-preserved c =
    let net = net_of c.args.net.now in
    λ q below member. elim (cases_eq q c.in-Some.p) [
      | inl same ↦ subst (λ (r : ℕ). net.initial r ≡ 0) (sym same) (let value = c.initial.ensures in let none = c.if-initial-gt0.false in omega arith)
      | inr other ↦ c.loop-from.invariant q (before_first c.args.set.now c.loop-from.from c.in-Some.p q c.in-Some.ensures (omega arith) member) member
    ]

pub returns-in_default : goal.returns-in_default
returns-in_default c =
    let net = net_of c.args.net.now in (
      λ never. absurd (false≢true never),
      λ some. let at = pair_from net.places (has c.args.set.now) net.initial some in
          let none : net.initial at.0 ≡ 0 = c.loop-from.invariant at.0 (before_all c.args.set.now c.loop-from.from at.0 c.in_default.ensures at.2) at.2 in
          let positive = at.3 in absurd (omega arith),
    )

pub returns : goal.returns
returns c =
    let net = net_of c.args.net.now in
    let past = (none_past c.args.set.now c.loop-from.from (let count = c.places.ensures.value in let size = c.requires in let over = c.loop-from-test.false in omega arith)) in (
      λ never. absurd (false≢true never),
      λ some. let at = pair_from net.places (has c.args.set.now) net.initial some in
          let none : net.initial at.0 ≡ 0 = c.loop-from.invariant at.0 (before_all c.args.set.now c.loop-from.from at.0 past at.2) at.2 in
          let positive = at.3 in absurd (omega arith),
    )
