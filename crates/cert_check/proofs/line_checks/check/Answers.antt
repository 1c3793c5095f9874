use Rattle.std.proofs.Common.{sym, subst}
use Rattle.net_values.specs.FlatNets.{net_of}
use Rattle.certificates.specs.Claims.{HasTrueClaim, ExcludesDead}
use Rattle.certificates.specs.Conditions.{IsAccepted}
use Rattle.certificates.specs.declared.certificate.Certificate.TheVariants.{Bounds, BadSiphon, Commoner}
use Rattle.cert_check.proofs.Claims.{true_claim, excludes_dead}
use Rattle.cert_check.proofs.Matches.{ok_map}
use Rattle.cert_check.proofs.line_checks.check.Goals as goal

pub returns-in-Bounds-clause-claim : goal.returns-in-Bounds-clause-claim
returns-in-Bounds-clause-claim c =
    let net = net_of c.args.net.now in
    ok_map c.check_bounds.result (IsAccepted net (Bounds c.in-Bounds.lines)) (HasTrueClaim net c.args.certificate.now)
    (λ accepted. true_claim net c.args.certificate.now c.requires.well_formed (subst (IsAccepted net) (sym c.in-Bounds.is) accepted)) c.check_bounds.ensures.accepted

pub returns-in-BadSiphon-clause-claim : goal.returns-in-BadSiphon-clause-claim
returns-in-BadSiphon-clause-claim c =
    let net = net_of c.args.net.now in
    ok_map c.check_bad_siphon.result (IsAccepted net (BadSiphon c.in-BadSiphon.places)) (HasTrueClaim net c.args.certificate.now)
    (λ accepted. true_claim net c.args.certificate.now c.requires.well_formed (subst (IsAccepted net) (sym c.in-BadSiphon.is) accepted)) c.check_bad_siphon.ensures.accepted

pub returns-in-Commoner-clause-claim : goal.returns-in-Commoner-clause-claim
returns-in-Commoner-clause-claim c =
    let net = net_of c.args.net.now in
    ok_map c.check_tree.result (IsAccepted net (Commoner c.in-Commoner.tree)) (HasTrueClaim net c.args.certificate.now)
    (λ accepted. true_claim net c.args.certificate.now c.requires.well_formed (subst (IsAccepted net) (sym c.in-Commoner.is) accepted)) c.check_tree.ensures.accepted

pub returns-in-Commoner-clause-safe : goal.returns-in-Commoner-clause-safe
returns-in-Commoner-clause-safe c =
    let net = net_of c.args.net.now in
    ok_map c.check_tree.result (IsAccepted net (Commoner c.in-Commoner.tree)) (ExcludesDead net c.args.certificate.now)
    (λ accepted. excludes_dead net c.args.certificate.now c.requires.well_formed (subst (IsAccepted net) (sym c.in-Commoner.is) accepted)) c.check_tree.ensures.accepted
