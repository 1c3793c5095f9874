use Rattle.std.proofs.Common.{subst, ℕ, List, [], ◌∷◌, ◌++◌}
use Rattle.std.proofs.lemmas.List.Elements.{Contains-push}
use Rattle.net_values.specs.FlatNets.{net_of}
use Rattle.closed_sets.specs.Falling.{IsFalling}
use Rattle.closed_sets.specs.Kinds.{seen_as}
use Rattle.closed_sets.proofs.Settling.{falling_more, loses_earlier}
use Rattle.closed_sets.proofs.propagate.propagate.Goals as goal

pub takers-requires : goal.takers-requires
takers-requires c =
    let net = seen_as c.args.kind (net_of c.args.net.now) in
    let falling : IsFalling net c.args.guard c.args.set.now c.fallen.set (c.pop.new.self ++ c.in-Some.p ∷ []) = subst (λ (l : List ℕ). IsFalling net c.args.guard c.args.set.now c.fallen.set l) c.in-Some.ensures.rest c.fallen.invariant in
    falling.places c.in-Some.p (Contains-push c.pop.new.self c.in-Some.p)

pub returns-then-not-close_all-clause-settled : goal.returns-then-not-close_all-clause-settled
returns-then-not-close_all-clause-settled c =
    loses_earlier (seen_as c.args.kind (net_of c.args.net.now)) c.args.guard c.args.set.now c.fallen.set c.fallen.fallen c.fallen.invariant c.if-not-close_all.ensures.closed

pub fallen-preserved : goal.fallen-preserved
fallen-preserved c =
    let net = seen_as c.args.kind (net_of c.args.net.now) in
    let falling : IsFalling net c.args.guard c.args.set.now c.fallen.set (c.pop.new.self ++ c.in-Some.p ∷ []) = subst (λ (l : List ℕ). IsFalling net c.args.guard c.args.set.now c.fallen.set l) c.in-Some.ensures.rest c.fallen.invariant in
    falling_more net c.args.guard c.args.set.now c.fallen.set c.close_all.new.set c.pop.new.self c.close_all.new.fallen c.in-Some.p c.takers.result.now c.requires.size falling c.takers.ensures.lists c.if-not-close_all.ensures.closed
