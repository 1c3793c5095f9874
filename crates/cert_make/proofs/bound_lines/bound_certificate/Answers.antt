use Rattle.std.proofs.Common.{◌≡◌, sym, ap, ◌∙◌, subst, ℕ, Bool, List, length, arith}
use Rattle.net_values.specs.FlatNets.{net_of}
use Rattle.net_values.specs.PlaceSets.{has}
use Rattle.certificates.specs.Conditions.{IsAccepted}
use Rattle.certificates.specs.WellFormed.{IsWellFormed}
use Rattle.cert_make.specs.BoundCertificates.{is_named, AreNarrowFlows}
use Rattle.cert_make.specs.Making.{AreNumbers, AreVectors, FitNumbers}
use Rattle.cert_make.proofs.BoundParts.{made_exact}
use Rattle.cert_make.proofs.ClaimLists.{rows_within, bounds_formed, bounds_accepted}
use Rattle.cert_make.proofs.Counts.{numbers_fit}
use Rattle.cert_make.proofs.bound_lines.bound_certificate.Goals as goal

pub named_flows-requires-clause-fit : goal.named_flows-requires-clause-fit
named_flows-requires-clause-fit c =
    let bounds = c.args.bounds.now in
    let exact : ◌≡◌ {A = ℕ → Bool} (has c.in_ok-named.named.items) (is_named bounds) = λ i k. c.in_ok-named.ensures.exact k i in
    let whole : ◌≡◌ {A = ℕ → Bool} (has c.as_slice.result.now) (is_named bounds) = ap (λ (list : List Bool). has list) c.as_slice.ensures.value ∙ exact in
    let limit = c.named_rows.ensures.limit in
    let size = c.requires.places in
    subst (λ (named : ℕ → Bool). FitNumbers c.args.rows.now named) (sym whole) (numbers_fit c.args.rows.now bounds (omega (arith, limit, size)))

pub returns-clause-exact : goal.returns-clause-exact
returns-clause-exact c =
    let bounds = c.args.bounds.now in
    let exact : ◌≡◌ {A = ℕ → Bool} (has c.in_ok-named.named.items) (is_named bounds) = λ i k. c.in_ok-named.ensures.exact k i in
    let whole : ◌≡◌ {A = ℕ → Bool} (has c.as_slice.result.now) (is_named bounds) = ap (λ (list : List Bool). has list) c.as_slice.ensures.value ∙ exact in
    made_exact c.args.rows.now bounds (has c.as_slice.result.now) c.in_ok-flows.flows c.in_ok-claims.claims c.as_slice-2.result.now whole c.in_ok-flows.ensures.exact
    (subst (λ (list : List ℕ). AreNumbers c.args.rows.now (has c.as_slice.result.now) (length c.args.rows.now) list) (sym c.as_slice-2.ensures) c.in_ok-flows.ensures.numbers)
    c.in_ok-claims.ensures (rows_within (net_of c.args.net.now) c.args.rows.now bounds c.requires.places c.requires.first)

pub returns-clause-well_formed : goal.returns-clause-well_formed
returns-clause-well_formed c =
    let bounds = c.args.bounds.now in
    let exact : ◌≡◌ {A = ℕ → Bool} (has c.in_ok-named.named.items) (is_named bounds) = λ i k. c.in_ok-named.ensures.exact k i in
    let whole : ◌≡◌ {A = ℕ → Bool} (has c.as_slice.result.now) (is_named bounds) = ap (λ (list : List Bool). has list) c.as_slice.ensures.value ∙ exact in
    subst IsWellFormed (sym (made_exact c.args.rows.now bounds (has c.as_slice.result.now) c.in_ok-flows.flows c.in_ok-claims.claims c.as_slice-2.result.now whole c.in_ok-flows.ensures.exact
    (subst (λ (list : List ℕ). AreNumbers c.args.rows.now (has c.as_slice.result.now) (length c.args.rows.now) list) (sym c.as_slice-2.ensures) c.in_ok-flows.ensures.numbers)
    c.in_ok-claims.ensures (rows_within (net_of c.args.net.now) c.args.rows.now bounds c.requires.places c.requires.first)))
    (bounds_formed (net_of c.args.net.now) c.args.rows.now bounds c.named_rows.ensures.limit c.requires.list c.requires.places c.requires.first c.requires.narrow
    (subst (λ (named : ℕ → Bool). AreVectors c.args.rows.now named (length c.args.rows.now)) whole c.in_ok-flows.ensures.vectors))

pub returns-clause-accepted : goal.returns-clause-accepted
returns-clause-accepted c =
    let bounds = c.args.bounds.now in
    let exact : ◌≡◌ {A = ℕ → Bool} (has c.in_ok-named.named.items) (is_named bounds) = λ i k. c.in_ok-named.ensures.exact k i in
    let whole : ◌≡◌ {A = ℕ → Bool} (has c.as_slice.result.now) (is_named bounds) = ap (λ (list : List Bool). has list) c.as_slice.ensures.value ∙ exact in
    subst (IsAccepted (net_of c.args.net.now)) (sym (made_exact c.args.rows.now bounds (has c.as_slice.result.now) c.in_ok-flows.flows c.in_ok-claims.claims c.as_slice-2.result.now whole c.in_ok-flows.ensures.exact
    (subst (λ (list : List ℕ). AreNumbers c.args.rows.now (has c.as_slice.result.now) (length c.args.rows.now) list) (sym c.as_slice-2.ensures) c.in_ok-flows.ensures.numbers)
    c.in_ok-claims.ensures (rows_within (net_of c.args.net.now) c.args.rows.now bounds c.requires.places c.requires.first)))
    (bounds_accepted (net_of c.args.net.now) c.args.rows.now bounds c.named_rows.ensures.limit c.requires.list c.requires.places c.requires.first c.requires.narrow
    (subst (λ (named : ℕ → Bool). AreNarrowFlows (net_of c.args.net.now) c.args.rows.now named (length c.args.rows.now)) whole c.in_ok-flows.ensures.narrow))
