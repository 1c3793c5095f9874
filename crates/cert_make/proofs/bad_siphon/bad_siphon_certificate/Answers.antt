use Rattle.std.proofs.Common.{◌≡◌, sym, subst, ℕ, List, ◌≤◌, rules}
use Rattle.net_values.specs.FlatNets.{net_of}
use Rattle.net_values.specs.PlaceSets.{has}
use Rattle.net_values.specs.declared.limits.TheConstants.{MAX_PLACES}
use Rattle.certificates.specs.declared.certificate.Certificate.TheVariants.{BadSiphon}
use Rattle.certificates.specs.Conditions.{IsAccepted}
use Rattle.certificates.specs.WellFormed.{ArePlaces}
use Rattle.cert_make.specs.PlaceLists.{places_below}
use Rattle.cert_make.proofs.PlaceListLemmas.{bad_well_formed, bad_accepted}
use Rattle.cert_make.proofs.bad_siphon.bad_siphon_certificate.Goals as goal

pub returns-clause-well_formed : goal.returns-clause-well_formed
returns-clause-well_formed c =
    let net = net_of c.args.net.now in
    let places : c.loop-p.places ≡ places_below net.places (has c.args.siphon.now) = search rules in
    let limit : net.places ≤ MAX_PLACES = search rules in
    subst ArePlaces (sym places) (bad_well_formed net c.args.siphon.now c.requires.size limit c.requires.some)

pub returns-clause-accepted : goal.returns-clause-accepted
returns-clause-accepted c =
    let net = net_of c.args.net.now in
    let places : c.loop-p.places ≡ places_below net.places (has c.args.siphon.now) = search rules in
    subst (λ (list : List ℕ). IsAccepted net (BadSiphon list)) (sym places) (bad_accepted net c.args.siphon.now c.requires.size c.requires.siphon c.requires.bad)
