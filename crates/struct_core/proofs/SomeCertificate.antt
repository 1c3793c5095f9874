-- Every net has an outcome of `cert-bounds` and `cert-commoner`, and every net and bytes of `verify`: the semiflows that
-- give bounds have a first wide sum or none, a net that meets Commoner's condition has a tree, and one that doesn't a
-- siphon; bytes spell a certificate or have a bad line, and a certificate is accepted or has a false one.
use Rattle.std.proofs.Common.{◌⊎◌, ℕ, zero, suc, count_by, ◌≤◌, List, ◌++◌, length, refl, sym, ap, subst, ◌∙◌, arith, inl, inr}
use Rattle.std.specs.Prelude.{Bool, codes}
use Rattle.net_values.specs.declared.document.Document.{Document}
use Rattle.net_values.specs.declared.flat_net.FlatPlace.{FlatPlace}
use Rattle.net_values.specs.declared.limits.TheConstants.{MAX_PLACES}
use Rattle.net_values.specs.FlatNets.{NetLists, net_of}
use Rattle.net_values.specs.Net.{Net}
use Rattle.net_values.specs.Items.{is_place}
use Rattle.net_values.specs.PlaceSets.{has}
use Rattle.bounds.specs.Listed.{AreNarrowRows, IsFirstWideRow}
use Rattle.bounds.proofs.Sums.{Generate}
use Rattle.certificates.specs.declared.certificate.Certificate.{Certificate}
use Rattle.certificates.specs.declared.certificate.Certificate.TheVariants.{Bounds, BadSiphon, Commoner}
use Rattle.certificates.specs.BadLines.{Spells, IsBadLine}
use Rattle.certificates.specs.Conditions.{IsAccepted, IsFalseLine}
use Rattle.certificates.specs.Spelling.{certificate_text}
use Rattle.cert_make.specs.BoundCertificates.{bounds_certificate, is_named}
use Rattle.cert_make.specs.PlaceLists.{places_below}
use Rattle.incidence.specs.Matrix.{incidence_of}
use Rattle.net_class.specs.declared.verdict.Verdict.{Verdict}
use Rattle.net_class.specs.declared.verdict.Verdict.TheVariants.{Yes, No}
use Rattle.pnml_grammar.specs.Documents.{DocBytes}
use Rattle.page_flatten.specs.Flat.{Flat, IsNet}
use Rattle.page_flatten.specs.Passes.{FitsLimits}
use Rattle.page_flatten.proofs.NetLists.{each_at}
use Rattle.page_flatten.proofs.NetChoice.{fits_limits}
use Rattle.pnml_grammar.specs.Valued.{Valued}
use Rattle.net_values.specs.declared.document.NetTree.{NetTree}
use Rattle.page_flatten.proofs.Decisions.{Decided}
use Rattle.page_flatten.proofs.NodeLaws.{places_counted}
use Rattle.siphon_branch.specs.Limits.{AtMostOrMore, IsGrownSet}
use Rattle.report.specs.FaultLines.{wide_check_line, wide_bound_line, limit_line, malformed_line, rejected_line}
use Rattle.report.specs.VerdictTexts.{CommonerSuffices, deadlock_line}
use Rattle.report.specs.VerifiedTexts.{IsVerifiedText}
use Rattle.struct_core.specs.Certificates.{CertBoundOutcome, certified, wide_check, no_bounds, CertifiesVerdict, CertVerdictOutcome, certified_verdict, no_verdict, VerifyOutcome, malformed, rejected, accepted}
use Rattle.struct_core.specs.Determined.{IsEliminationDecided}
use Rattle.struct_core.specs.Enumerations.{AreListed, set_limit}
use Rattle.struct_core.specs.Verdicts.{AreBounds, IsVerdict, wide_bound, no_semiflows}
use Rattle.certificates.proofs.OneReading.{a_certificate_or_a_bad_line}
use Rattle.cert_check.proofs.Decisions.{accepted_or_false}
use Rattle.cert_make.proofs.PlaceListLemmas.{bad_well_formed, bad_accepted}
use Rattle.cert_make.proofs.PlaceTrees.{has_certificate}
use Rattle.cert_make.proofs.WideChecks.{narrow_or_wide}
use Rattle.struct_core.proofs.Judging.{is_listed}
use Rattle.net_class.specs.Verdicts.{IsFirstWithoutTrap}
use Rattle.closed_sets.specs.MinimalSets.{IsMinimalSet}
use Rattle.net_values.specs.TheList.{IsTheList}
use Rattle.std.specs.Cmp.Lexicographic.{slice_cmp}
use Rattle.std.specs.Ordering.{bool_cmp}
use Rattle.struct_core.proofs.Outcomes.{step_goes_on}
use Rattle.struct_core.proofs.SomeBounds.{narrow_or_first_wide, all_kept, all_sized, all_least, all_first}
use Rattle.struct_core.proofs.SomeClass.{both, positive, ordinary_or_not, truth_of, tells_truth}
use Rattle.struct_core.proofs.SomeFailure.{some_failure}

-- ---- the certificate of the bounds

module _ (net : Net) (front : List ℕ) (ids columns : ℕ → List ℕ) (budget : ℕ) where
  abbrev Told : Type 0
  Told = (status : ℕ) × (text : List ℕ) × CertBoundOutcome net front ids columns budget status text

  of_list : (list : List (List ℕ)) → AreListed (incidence_of net) budget list → Generate net list
      → AreNarrowRows net list (length list) ⊎ ((row : ℕ) × IsFirstWideRow net list row) → Told
  of_list list listed generates (inl narrow) =
      let bounds = all_kept net list in
      let are : AreBounds net budget list bounds = record {
        listed = listed;
        narrow = narrow;
        size = all_sized net list;
        least = all_least net list listed.is generates;
        first = all_first net list;
      } in
      elim (narrow_or_wide net list (is_named bounds)) [
        | inl flows ↦ (0, front ++ certificate_text (bounds_certificate list bounds), certified list bounds are flows)
        | inr wide ↦ (4, wide_check_line wide.0 (columns wide.1), wide_check list bounds wide.0 wide.1 are wide.2)
      ]
  of_list list listed generates (inr wide) =
      (4, wide_bound_line wide.0, no_bounds 4 (wide_bound_line wide.0) (λ is. omega (arith, is)) (wide_bound list wide.0 listed wide.1))

  pub some_cert_bounds : IsEliminationDecided (incidence_of net) budget → Told
  some_cert_bounds (inl lists) = of_list lists.0 lists.1 lists.2 (narrow_or_first_wide net lists.0)
  some_cert_bounds (inr fails) =
      let failure = some_failure (incidence_of net) columns budget fails.0 fails.1 in (
        failure.0,
        failure.1,
        no_bounds failure.0 failure.1 (step_goes_on (incidence_of net) columns budget failure.0 failure.1 failure.2)
            (no_semiflows failure.0 failure.1 failure.2),
      )

-- ---- the certificate of Commoner's verdict

-- the first siphon without a marked trap is a certificate
siphon_there : (net : Net) (siphons : List (List Bool)) (siphon : List Bool) → net.places ≤ MAX_PLACES → IsTheList (slice_cmp bool_cmp) (IsMinimalSet net) siphons
    → IsFirstWithoutTrap net siphons siphon → CertifiesVerdict net (No siphon) (BadSiphon (places_below net.places (has siphon)))
siphon_there net siphons siphon limit all first =
    let minimal = (all.members siphon).0 (is_listed net siphons siphon first) in record {
      well_formed = bad_well_formed net siphon minimal.size limit minimal.minimal.nonempty;
      accepted = bad_accepted net siphon minimal.size minimal.minimal.siphon first.lacks;
      kind = refl;
    }

certificate_of : (net : Net) (one : Verdict) → net.places ≤ MAX_PLACES → IsVerdict net one → (certificate : Certificate) × CertifiesVerdict net one certificate
certificate_of net Yes limit is =
    let made = has_certificate net limit (is.exact.0 refl) in
    (made.0, record { well_formed = made.2; accepted = made.3; kind = made.1 })
certificate_of net (No siphon) limit is =
    (BadSiphon (places_below net.places (has siphon)), siphon_there net is.siphons siphon limit is.all is.first)

pub some_cert_verdict : (net : Net) (front : List ℕ) (limit : ℕ) → net.places ≤ MAX_PLACES → AtMostOrMore (IsGrownSet net) limit
    → (one : Verdict) × IsVerdict net one → (status : ℕ) × (text : List ℕ) × CertVerdictOutcome net front limit status text
some_cert_verdict net front limit size (inl few) verdict =
    let made = certificate_of net verdict.0 size verdict.1 in
    (0, front ++ certificate_text made.0, certified_verdict verdict.0 made.0 few verdict.1 made.1)
some_cert_verdict net front limit size (inr many) verdict = (6, limit_line limit, no_verdict 6 (limit_line limit) (set_limit many.0 many.1))

-- ---- `verify`

suffices_or_not : (net : Net) → Decided (CommonerSuffices net)
suffices_or_not net = elim (both _ _ (ordinary_or_not net) (positive net.transitions)) [
  | inl h ↦ inl record { ordinary = h.0; some_transition = h.1 }
  | inr lacks ↦ inr (λ h. lacks (h.ordinary, h.some_transition))
]

pub some_verified_text : (net : Net) (certificate : Certificate) → (text : List ℕ) × IsVerifiedText net certificate text
some_verified_text net (Bounds lines) = (codes "accepted bounds\n", refl)
some_verified_text net (BadSiphon places) = (codes "accepted bad-siphon\n", refl)
some_verified_text net (Commoner tree) = (
  codes "accepted commoner\n" ++ deadlock_line (truth_of (suffices_or_not net)),
  record { is_proved = truth_of (suffices_or_not net); exact = tells_truth (suffices_or_not net); spelled = refl },
)

module _ (net : Net) (bytes : List ℕ) where
  abbrev Verified : Type 0
  Verified = (status : ℕ) × (text : List ℕ) × VerifyOutcome net bytes status text

  of_certificate : (certificate : Certificate) → Spells certificate bytes → IsAccepted net certificate ⊎ ((number : ℕ) × IsFalseLine net certificate number)
      → Verified
  of_certificate certificate spelled (inl holds) =
      let told = some_verified_text net certificate in (0, told.0, accepted certificate told.0 spelled holds told.1)
  of_certificate certificate spelled (inr bad) = (1, rejected_line bad.0, rejected certificate bad.0 spelled bad.1)

  of_bytes : ((certificate : Certificate) × Spells certificate bytes) ⊎ ((number : ℕ) × IsBadLine bytes number) → Verified
  of_bytes (inl spelled) = of_certificate spelled.0 spelled.1 (accepted_or_false net spelled.0 spelled.1.well_formed)
  of_bytes (inr bad) = (1, malformed_line bad.0, malformed bad.0 bad.1)

  pub some_verify : Verified
  some_verify = of_bytes (a_certificate_or_a_bad_line bytes)

-- ---- the limit of places

few_of_net : (document : Document) (k : ℕ) (tree : NetTree) → Valued document → IsNet document k tree → count_by is_place tree.items ≤ MAX_PLACES
few_of_net document zero tree valued chosen = absurd chosen
few_of_net document (suc n) tree valued chosen = (each_at FitsLimits document.nets n tree chosen (fits_limits document valued)).places

pub few_places : (document : Document) (k : ℕ) (net : NetLists) {bytes : List ℕ} → DocBytes document bytes → Flat document k net → (net_of net).places ≤ MAX_PLACES
few_places document k net spelled flat =
    let few = few_of_net document k flat.tree spelled.spells.valued flat.chosen in
    let count = places_counted flat.tree.items in
    subst (λ (n : ℕ). n ≤ MAX_PLACES) (sym (ap (λ (places : List FlatPlace). length places) flat.flat.places ∙ count)) few
