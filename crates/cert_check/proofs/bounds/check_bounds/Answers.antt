use Rattle.std.proofs.Common.{subst, ℕ, ℤ, ◌+◌, List, All, length}
use Rattle.net_values.specs.FlatNets.{net_of}
use Rattle.certificates.specs.declared.certificate.Claim.{Claim}
use Rattle.certificates.specs.declared.certificate.Certificate.TheVariants.{Bounds}
use Rattle.certificates.specs.Conditions.{FlowHolds, ClaimHolds, IsAccepted, IsFalseLine}
use Rattle.cert_check.specs.declared.line_checks.Rejected.{Rejected}
use Rattle.cert_check.specs.Flows.{FailsFirst}
use Rattle.cert_check.proofs.Lines.{bounds_accepted, flows_rejected, claims_rejected}
use Rattle.cert_check.proofs.Matches.{ok_map, err_map}
use Rattle.cert_check.proofs.bounds.check_bounds.Goals as goal

pub returns-in-Ok-clause-accepted : goal.returns-in-Ok-clause-accepted
returns-in-Ok-clause-accepted c =
    let net = net_of c.args.net.now in
    ok_map c.check_claims.result (All (ClaimHolds net c.as_slice-flows.result.now) c.as_slice.result.now) (IsAccepted net (Bounds c.args.lines.now))
    (λ claims. bounds_accepted net c.args.lines.now
    (subst (λ (flows : List (List (ℕ × ℤ))). All (FlowHolds net) flows) c.as_slice-flows.ensures c.in-Ok.ensures.all)
    (subst (λ (flows : List (List (ℕ × ℤ))). All (ClaimHolds net flows) c.args.lines.now.claims) c.as_slice-flows.ensures
    (subst (λ (members : List Claim). All (ClaimHolds net c.as_slice-flows.result.now) members) c.as_slice.ensures claims)))
    c.check_claims.ensures.all

pub returns-in-Ok-clause-rejected : goal.returns-in-Ok-clause-rejected
returns-in-Ok-clause-rejected c =
    let net = net_of c.args.net.now in
    err_map c.check_claims.result (λ (fault : Rejected). FailsFirst (ClaimHolds net c.as_slice-flows.result.now) c.as_slice.result.now (length c.as_slice-flows.result.now + 2) fault.0) (λ (fault : Rejected). IsFalseLine net (Bounds c.args.lines.now) fault.0)
    (λ fault first. claims_rejected net c.args.lines.now fault.0
    (subst (λ (flows : List (List (ℕ × ℤ))). All (FlowHolds net) flows) c.as_slice-flows.ensures c.in-Ok.ensures.all)
    (subst (λ (flows : List (List (ℕ × ℤ))). FailsFirst (ClaimHolds net flows) c.args.lines.now.claims (length flows + 2) fault.0) c.as_slice-flows.ensures
    (subst (λ (members : List Claim). FailsFirst (ClaimHolds net c.as_slice-flows.result.now) members (length c.as_slice-flows.result.now + 2) fault.0) c.as_slice.ensures first)))
    c.check_claims.ensures.first

pub returns-in-Err-clause-rejected : goal.returns-in-Err-clause-rejected
returns-in-Err-clause-rejected c =
    let net = net_of c.args.net.now in
    flows_rejected net c.args.lines.now c.in-Err.rejected.0
    (subst (λ (flows : List (List (ℕ × ℤ))). FailsFirst (FlowHolds net) flows 2 c.in-Err.rejected.0) c.as_slice-flows.ensures c.in-Err.ensures.first)
