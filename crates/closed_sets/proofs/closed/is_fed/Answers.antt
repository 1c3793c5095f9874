use Rattle.std.proofs.Common.{◌≡◌, ◌∙◌, ◌<◌, sym, refl, subst, ℕ, false, IsTrue, length, get_or, inl, inr, arith}
use Rattle.std.proofs.lemmas.Bool.{cases_eq, false≢true}
use Rattle.net_values.specs.FlatNets.{net_of}
use Rattle.net_values.specs.PlaceSets.{has}
use Rattle.closed_sets.specs.ClosedSets.{has_input_in}
use Rattle.closed_sets.specs.Kinds.{seen_as}
use Rattle.closed_sets.proofs.Fed.{fed_not, fed_all}
use Rattle.closed_sets.proofs.Passes.{meets_is}
use Rattle.closed_sets.proofs.closed.is_fed.Goals as goal

pub returns-then-not-meets : goal.returns-then-not-meets
returns-then-not-meets c =
    let net = seen_as c.args.kind (net_of c.args.net.now) in
    let within : c.loop-t.t-index < length c.givers-givers.result.now = omega arith in
    let none : has_input_in net (has c.args.set.now) (get_or c.givers-givers.result.now c.loop-t.t-index 0) ≡ false = sym (meets_is _ _ _ (has c.args.set.now) c.inputs.ensures) ∙ sym c.meets.ensures ∙ c.if-not-meets.true in (
      λ never. absurd (false≢true never),
      λ fed. absurd (fed_not net (has c.args.set.now) c.args.p c.loop-t.t-index c.givers-givers.result.now c.givers-givers.ensures.lists c.givers-givers.ensures.within within none fed),
    )

pub loop-t-preserved : goal.loop-t-preserved
loop-t-preserved c =
    let net = seen_as c.args.kind (net_of c.args.net.now) in
    let takes : IsTrue (has_input_in net (has c.args.set.now) (get_or c.givers-givers.result.now c.loop-t.t-index 0)) = sym (meets_is _ _ _ (has c.args.set.now) c.inputs.ensures) ∙ sym c.meets.ensures ∙ c.if-not-meets.false in
    λ k below. elim (cases_eq k c.loop-t.t-index) [
      | inl same ↦ subst (λ (j : ℕ). IsTrue (has_input_in net (has c.args.set.now) (get_or c.givers-givers.result.now j 0))) (sym same) takes
      | inr other ↦ c.loop-t.invariant k (omega arith)
    ]

pub returns : goal.returns
returns c =
    let net = seen_as c.args.kind (net_of c.args.net.now) in (
      λ _. fed_all net (has c.args.set.now) c.args.p c.givers-givers.result.now c.givers-givers.ensures.lists (λ k below. c.loop-t.invariant k (omega arith)),
      λ _. refl,
    )
