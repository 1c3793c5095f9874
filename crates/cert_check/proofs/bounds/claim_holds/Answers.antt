use Rattle.std.proofs.Common.{◌≡◌, ◌∙◌, sym, subst, ℤ, ◌-◌, ◌<◌, [], length, slice_index, arith}
use Rattle.std.proofs.lemmas.List.{get_or_default}
use Rattle.std.specs.Prelude.{MatchBool}
use Rattle.net_values.specs.FlatNets.{net_of}
use Rattle.certificates.specs.Conditions.{flow_of, ClaimHolds, FlowHolds}
use Rattle.cert_check.specs.Flows.{BoundsPlace}
use Rattle.cert_check.proofs.Matches.{match_map}
use Rattle.cert_check.proofs.Vectors.{number_kept, flow_narrow, claim_met, claim_bounds}
use Rattle.cert_check.proofs.bounds.claim_holds.Goals as goal

pub load-requires-clause-within : goal.load-requires-clause-within
load-requires-clause-within c =
    let net = net_of c.args.net.now in
    let exists : c.args.claim.flow - 1 < length c.args.flows.now = let number = c.requires.claim.flow in let most = c.if-number-flows.false in omega arith in
    let is : c.as_slice.result.now ≡ flow_of c.args.flows.now c.args.claim = c.as_slice.ensures ∙ c.index-flows-number.is ∙ get_or_default c.args.flows.now (c.args.claim.flow - 1) c.index-flows-number.result [] exists in
    let holds : FlowHolds net c.as_slice.result.now = subst (FlowHolds net) (sym is) (c.requires.held (c.args.claim.flow - 1) [] exists) in
    λ k d below. let place = holds.places k d below in let size = c.requires.size in omega arith

pub bounds_place-requires-clause-narrow : goal.bounds_place-requires-clause-narrow
bounds_place-requires-clause-narrow c =
    let net = net_of c.args.net.now in
    let exists : c.args.claim.flow - 1 < length c.args.flows.now = let number = c.requires.claim.flow in let most = c.if-number-flows.false in omega arith in
    let is : c.as_slice.result.now ≡ flow_of c.args.flows.now c.args.claim = c.as_slice.ensures ∙ c.index-flows-number.is ∙ get_or_default c.args.flows.now (c.args.claim.flow - 1) c.index-flows-number.result [] exists in
    let holds : FlowHolds net c.as_slice.result.now = subst (FlowHolds net) (sym is) (c.requires.held (c.args.claim.flow - 1) [] exists) in
    flow_narrow net c.as_slice.result.now (slice_index c.load.new.y) c.load.ensures.vector holds

pub returns-clause-exact : goal.returns-clause-exact
returns-clause-exact c =
    let net = net_of c.args.net.now in
    let exists : c.args.claim.flow - 1 < length c.args.flows.now = let number = c.requires.claim.flow in let most = c.if-number-flows.false in omega arith in
    let is : c.as_slice.result.now ≡ flow_of c.args.flows.now c.args.claim = c.as_slice.ensures ∙ c.index-flows-number.is ∙ get_or_default c.args.flows.now (c.args.claim.flow - 1) c.index-flows-number.result [] exists in
    match_map c.bounds_place.result (BoundsPlace net (slice_index c.load.new.y) c.args.claim.place c.args.claim.bound) (BoundsPlace net (slice_index c.load.new.y) c.args.claim.place c.args.claim.bound → ⊥)
    (ClaimHolds net c.args.flows.now c.args.claim) (ClaimHolds net c.args.flows.now c.args.claim → ⊥)
    (claim_met net c.as_slice.result.now (slice_index c.load.new.y) c.load.ensures.vector c.args.flows.now c.args.claim is
    (let count = c.places.ensures.value in let low = c.if-place-places.false in omega arith)
    (let most = c.if-number-flows.false in omega arith))
    (λ none holds. none (claim_bounds net c.as_slice.result.now (slice_index c.load.new.y) c.load.ensures.vector c.args.flows.now c.args.claim is holds))
    (subst (λ (bound : ℤ). MatchBool c.bounds_place.result (BoundsPlace net (slice_index c.load.new.y) c.args.claim.place bound) (BoundsPlace net (slice_index c.load.new.y) c.args.claim.place bound → ⊥))
    (number_kept 0 c.args.claim.bound c.requires.claim.bound) c.bounds_place.ensures)
