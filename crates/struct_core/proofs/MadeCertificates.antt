-- What is written for a certificate is read back: the canonical text is the first line and spells the document, and the
-- certificate is well formed and accepted.
use Rattle.std.proofs.Common.{◌≡◌, ℕ, ◌≤◌, List, ◌++◌, refl, sym, ap, subst, ◌∙◌, arith, inl, inr}
use Rattle.net_values.specs.declared.document.Document.{Document}
use Rattle.net_values.specs.declared.limits.TheConstants.{MAX_PLACES}
use Rattle.net_values.specs.FlatNets.{NetLists, net_of}
use Rattle.net_values.specs.Net.{Net}
use Rattle.certificates.specs.declared.certificate.Certificate.{Certificate}
use Rattle.certificates.specs.BadLines.{Spells}
use Rattle.certificates.specs.Conditions.{IsAccepted}
use Rattle.certificates.specs.Spelling.{certificate_text}
use Rattle.certificates.specs.WellFormed.{IsWellFormed}
use Rattle.cert_make.specs.BoundCertificates.{bounds_certificate, is_named}
use Rattle.cert_make.proofs.ClaimLists.{bounds_formed, bounds_accepted}
use Rattle.pnml_grammar.specs.Canon.{canon}
use Rattle.pnml_grammar.specs.Documents.{DocBytes}
use Rattle.pnml_grammar.specs.Valued.{Valued}
use Rattle.pnml_grammar.proofs.CanonLaws.{canon_is}
use Rattle.page_flatten.specs.Flat.{Flat}
use Rattle.struct_core.specs.declared.order.Task.{Task}
use Rattle.struct_core.specs.declared.order.Task.TheVariants as tasks
use Rattle.struct_core.specs.declared.order.Budgets.{Budgets}
use Rattle.struct_core.specs.declared.order.Order.TheVariants.{Run}
use Rattle.struct_core.specs.Certificates.{CertBoundOutcome, certified, wide_check, no_bounds, CertVerdictOutcome, certified_verdict, no_verdict, accepted}
use Rattle.struct_core.specs.Inputs.{front_of, rest_of, first_line, after_first_line}
use Rattle.struct_core.specs.Laws.{MadeCertificatesAreAccepted}
use Rattle.struct_core.specs.Outcome.{TaskOutcome, Profile, Outcome, no_document, broken, no_net, answer}
use Rattle.struct_core.proofs.CanonLine.{canon_first, canon_rest}
use Rattle.struct_core.proofs.NarrowEntries.{narrow_vectors}
use Rattle.struct_core.proofs.Outcomes.{limit_goes_on}
use Rattle.struct_core.proofs.SomeCertificate.{some_verified_text, few_places}

-- a text of the canonical text and a well-formed certificate that the net accepts
record IsMade (net : Net) (document : Document) (text : List ℕ) : Type 0 where
  pub certificate : Certificate
  pub well_formed : IsWellFormed certificate
  pub holds : IsAccepted net certificate
  pub text_is : text ≡ canon document ++ certificate_text certificate

-- the parts of an outcome with a text
record HasAnswer (task : Task) (k : ℕ) (budgets : Budgets) (input text : List ℕ) : Type 0 where
  pub document : Document
  pub net : NetLists
  pub profile : Profile (front_of task input) document
  pub flat : Flat document k net
  pub outcome : TaskOutcome task budgets document net (rest_of task input) 0 text

answered : (task : Task) (k : ℕ) (budgets : Budgets) (input : List ℕ) (status : ℕ) (text : List ℕ) → Outcome (Run task k budgets) input status text → status ≡ 0
    → HasAnswer task k budgets input text
answered _ _ _ _ _ _ (no_document task k budgets input fault first) zero_is = absurd (omega (arith, zero_is))
answered _ _ _ _ _ _ (broken task k budgets input document fault spelled first) zero_is = absurd (omega (arith, zero_is))
answered _ _ _ _ _ _ (no_net task k budgets input document profile lacks) zero_is = absurd (omega (arith, zero_is))
answered _ _ _ _ _ _ (answer task k budgets input document net status text profile flat outcome) zero_is = record {
  document = document;
  net = net;
  profile = profile;
  flat = flat;
  outcome = subst (λ (n : ℕ). TaskOutcome task budgets document net (rest_of task input) n text) zero_is outcome;
}

of_verdict : (net : Net) (document : Document) (limit status : ℕ) (text : List ℕ) → CertVerdictOutcome net (canon document) limit status text → status ≡ 0
    → IsMade net document text
of_verdict net document limit _ _ (certified_verdict verdict certificate few is certifies) zero_is =
    record { certificate = certificate; well_formed = certifies.well_formed; holds = certifies.accepted; text_is = refl }
of_verdict net document limit _ _ (no_verdict status line passed) zero_is = absurd (limit_goes_on _ limit status line passed zero_is)

of_bounds : (net : Net) (document : Document) (ids columns : ℕ → List ℕ) (budget status : ℕ) (text : List ℕ) → net.places ≤ MAX_PLACES
    → CertBoundOutcome net (canon document) ids columns budget status text → status ≡ 0 → IsMade net document text
of_bounds net document ids columns budget _ _ limit (certified list bounds are flows) zero_is = record {
  certificate = bounds_certificate list bounds;
  well_formed = bounds_formed net list bounds limit are.listed.is are.size are.first are.narrow (narrow_vectors net list (is_named bounds) limit are.listed.is flows);
  holds = bounds_accepted net list bounds limit are.listed.is are.size are.first are.narrow flows;
  text_is = refl;
}
of_bounds net document ids columns budget _ _ limit (wide_check list bounds row column are wide) zero_is = absurd (omega (arith, zero_is))
of_bounds net document ids columns budget _ _ limit (no_bounds status line other outcome) zero_is = absurd (other zero_is)

module _ (k : ℕ) (others : Budgets) (document : Document) (net : NetLists) (bytes text : List ℕ) (profile : Profile bytes document) (flat : Flat document k net)
    (made : IsMade (net_of net) document text) where
  abbrev valued : Valued document
  valued = profile.spelled.spells.valued

  front_is : first_line text ≡ canon document
  front_is = ap first_line made.text_is ∙ canon_first document (certificate_text made.certificate) valued

  rest_is : after_first_line text ≡ certificate_text made.certificate
  rest_is = ap after_first_line made.text_is ∙ canon_rest document (certificate_text made.certificate) valued

  verified : (line : List ℕ) × Outcome (Run tasks.Verify k others) text 0 line
  verified =
      let told = some_verified_text (net_of net) made.certificate in
      let spelled : Spells made.certificate (after_first_line text) = record { well_formed = made.well_formed; text = rest_is } in (
        told.0,
        answer tasks.Verify k others text document net 0 told.0
            (record { spelled = subst (DocBytes document) (sym front_is) (canon_is document valued); rules = profile.rules }) flat
            (accepted made.certificate told.0 spelled made.holds told.1),
      )

pub made_are_accepted : MadeCertificatesAreAccepted
made_are_accepted k budgets others input text (inl bounds) =
    let has = answered tasks.CertBounds k budgets input 0 text bounds refl in
    verified k others has.document has.net input text has.profile has.flat
    (of_bounds (net_of has.net) has.document _ _ _ 0 text (few_places has.document k has.net has.profile.spelled has.flat) has.outcome refl)
made_are_accepted k budgets others input text (inr verdict) =
    let has = answered tasks.CertCommoner k budgets input 0 text verdict refl in
    verified k others has.document has.net input text has.profile has.flat
    (of_verdict (net_of has.net) has.document _ 0 text has.outcome refl)
