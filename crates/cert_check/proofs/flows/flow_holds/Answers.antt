use Rattle.std.proofs.Common.{sym, refl, subst, ℕ, ◌<◌, ◌^◌, Bool, slice_index}
use Rattle.std.specs.Prelude.{MatchBool}
use Rattle.net_values.specs.FlatNets.{net_of}
use Rattle.incidence.specs.Invariance.{weighted_tokens}
use Rattle.certificates.specs.Conditions.{FlowHolds}
use Rattle.cert_check.specs.Flows.{LiesWithin}
use Rattle.cert_check.proofs.Matches.{match_map, ok_decides}
use Rattle.cert_check.proofs.Vectors.{flow_met, flow_balanced, flow_narrow}
use Rattle.cert_check.proofs.flows.flow_holds.Goals as goal

pub returns-then-is_balanced-clause-exact : goal.returns-then-is_balanced-clause-exact
returns-then-is_balanced-clause-exact c =
    let net = net_of c.args.net.now in
    let within : LiesWithin net.places c.args.flow.now = subst (λ (n : ℕ). LiesWithin n c.args.flow.now) c.places.ensures.value (c.if-not-lies_within.ensures.0 refl) in
    subst (λ (b : Bool). MatchBool b (FlowHolds net c.args.flow.now) (FlowHolds net c.args.flow.now → ⊥)) (sym c.is_ok.ensures.value)
    (match_map _ (weighted_tokens net (slice_index c.load.new.y) net.initial < 2 ^ 127) (weighted_tokens net (slice_index c.load.new.y) net.initial < 2 ^ 127 → ⊥) (FlowHolds net c.args.flow.now) (FlowHolds net c.args.flow.now → ⊥)
    (flow_met net c.args.flow.now (slice_index c.load.new.y) c.load.ensures.vector within c.if-is_balanced.ensures)
    (λ wide holds. wide (flow_narrow net c.args.flow.now (slice_index c.load.new.y) c.load.ensures.vector holds))
    (ok_decides c.initial_tokens.result _ _ c.initial_tokens.ensures))

pub returns-else-is_balanced-clause-exact : goal.returns-else-is_balanced-clause-exact
returns-else-is_balanced-clause-exact c =
    let net = net_of c.args.net.now in
    subst (λ (b : Bool). MatchBool b (FlowHolds net c.args.flow.now) (FlowHolds net c.args.flow.now → ⊥)) (sym c.if-is_balanced.false)
    (λ holds. c.if-is_balanced.ensures (flow_balanced net c.args.flow.now (slice_index c.load.new.y) c.load.ensures.vector holds))
