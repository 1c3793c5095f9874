-- What a certificate that was made or checked is to the outcome, and what each refusal is.
use Rattle.std.proofs.Common.{◌≡◌, ℕ, List, ◌++◌, Option, sym, ap, subst, ◌∙◌, arith, inl, inr, length, IsErrAnd}
use Rattle.std.specs.Prelude.{Bool, Result, IfErr, ◌↔◌}
use Rattle.std.specs.Cmp.Lexicographic.{slice_cmp}
use Rattle.std.specs.Ordering.{bool_cmp}
use Rattle.net_values.specs.Net.{Net}
use Rattle.net_values.specs.PlaceSets.{has}
use Rattle.net_values.specs.TheList.{IsTheList}
use Rattle.bounds.specs.declared.place_bound.PlaceBound.{PlaceBound}
use Rattle.bounds.specs.Listed.{AreLeastBounds, AreNarrowRows, NameFirstRows}
use Rattle.certificates.specs.declared.certificate.Certificate.{Certificate}
use Rattle.certificates.specs.declared.certificate.Certificate.TheVariants.{BadSiphon}
use Rattle.certificates.specs.declared.fault.ReadFault.{ReadFault}
use Rattle.certificates.specs.declared.fault.ReadFault.TheVariants as readings
use Rattle.certificates.specs.BadLines.{Spells, IsBadLine}
use Rattle.certificates.specs.Claims.{IsForCommoner}
use Rattle.certificates.specs.Conditions.{IsAccepted, IsFalseLine}
use Rattle.certificates.specs.Spelling.{certificate_text}
use Rattle.certificates.specs.WellFormed.{IsWellFormed}
use Rattle.cert_make.specs.BoundCertificates.{bounds_certificate, is_named, AreNarrowFlows, FailsToCertify}
use Rattle.cert_make.specs.PlaceLists.{places_below}
use Rattle.cert_make.specs.declared.fault.BoundCertFault.{BoundCertFault}
use Rattle.cert_make.specs.declared.fault.BoundCertFault.TheVariants as makings
use Rattle.closed_sets.specs.Commoner.{HasMarkedTrap, MeetsCommoner}
use Rattle.closed_sets.specs.MinimalSets.{IsMinimalSet}
use Rattle.incidence.specs.Matrix.{incidence_of}
use Rattle.net_class.specs.declared.verdict.Verdict.{Verdict}
use Rattle.net_class.specs.declared.verdict.Verdict.TheVariants.{Yes, No}
use Rattle.net_class.specs.Verdicts.{NamesFirst}
use Rattle.page_flatten.proofs.FaultLaws.{err_goes}
use Rattle.siphon_branch.specs.Limits.{HasAtMostGrown, IsGrownSet}
use Rattle.report.specs.FaultLines.{wide_check_line}
use Rattle.report.specs.declared.refusal.Refusal.{Refusal}
use Rattle.report.specs.declared.refusal.Refusal.TheVariants.{Excess, Malformed, Rejected}
use Rattle.report.specs.declared.refusal.Excess.TheVariants.{WideCheck}
use Rattle.report.specs.VerifiedTexts.{IsVerifiedText}
use Rattle.struct_core.specs.Answers.{FailsWith}
use Rattle.struct_core.specs.Certificates.{CertBoundOutcome, certified, wide_check, no_bounds, CertifiesVerdict, CertVerdictOutcome, certified_verdict, no_verdict, VerifyOutcome, malformed, rejected, accepted}
use Rattle.struct_core.specs.Enumerations.{AreListed, FailedStep, PassedLimit}
use Rattle.struct_core.specs.Verdicts.{FirstWide, AreBounds, BoundOutcome, IsVerdict}
use Rattle.struct_core.proofs.Judging.{bounds_fail, wide_fails, is_listed}
use Rattle.struct_core.proofs.Listing.{fails_so}

-- ---- bounds

module _ (net : Net) (front : List ℕ) (ids columns : ℕ → List ℕ) (budget : ℕ) where
  -- a refusal of `bounds` is one of `cert-bounds`
  fails_as_bounds : (refusal : Refusal) → FailsWith (BoundOutcome net ids columns budget) refusal → FailsWith (CertBoundOutcome net front ids columns budget) refusal
  fails_as_bounds refusal (inl memory) = inl memory
  fails_as_bounds refusal (inr told) = inr record {
    low = told.low;
    not_usage = told.not_usage;
    high = told.high;
    outcome = no_bounds _ _ (λ is. (let low = told.low in omega (arith, is, low))) told.outcome;
  }

  pub no_rows : {T : Type 0} (result : Result T Refusal) (refusal : Refusal) → IsErrAnd result (λ x. x ≡ refusal)
      → FailsWith (FailedStep (incidence_of net) columns budget) refusal → IfErr result (FailsWith (CertBoundOutcome net front ids columns budget))
  no_rows result refusal same fails =
      err_goes (FailsWith (CertBoundOutcome net front ids columns budget)) result refusal same
      (fails_as_bounds refusal (bounds_fail net ids columns budget refusal fails))

  pub wide_row : {T : Type 0} (list : List (List ℕ)) (result : Result T Refusal) (refusal : Refusal) → IsErrAnd result (λ x. x ≡ refusal)
      → AreListed (incidence_of net) budget list → FailsWith (FirstWide net list) refusal
      → IfErr result (FailsWith (CertBoundOutcome net front ids columns budget))
  wide_row list result refusal same listed fails =
      err_goes (FailsWith (CertBoundOutcome net front ids columns budget)) result refusal same
      (fails_as_bounds refusal (wide_fails net ids columns budget list refusal listed fails))

  module _ (list : List (List ℕ)) (bounds : List (Option PlaceBound)) (listed : AreListed (incidence_of net) budget list)
      (narrow : AreNarrowRows net list (length list)) (size : length bounds ≡ net.places) (least : AreLeastBounds net bounds)
      (first : NameFirstRows net list bounds) where
    are_bounds : AreBounds net budget list bounds
    are_bounds = record { listed = listed; narrow = narrow; size = size; least = least; first = first }

    pub bounds_made : (certificate : Certificate) (text : List ℕ) → certificate ≡ bounds_certificate list bounds
        → AreNarrowFlows net list (is_named bounds) (length list) → text ≡ front ++ certificate_text certificate
        → CertBoundOutcome net front ids columns budget 0 text
    bounds_made certificate text is flows spelled =
        subst (λ (t : List ℕ). CertBoundOutcome net front ids columns budget 0 t)
        (sym (spelled ∙ ap (λ (c : Certificate). front ++ certificate_text c) is)) (certified list bounds are_bounds flows)

    pub wide_check_told : (row column : ℕ) (id : List ℕ) (fault : BoundCertFault) → fault ≡ makings.WideCheck row column
        → FailsToCertify net list (is_named bounds) fault → id ≡ columns column
        → FailsWith (CertBoundOutcome net front ids columns budget) (Excess (WideCheck row id))
    wide_check_told row column id fault is wide same = inr record {
      low = omega arith;
      not_usage = λ h. omega (arith, h);
      high = omega arith;
      outcome = subst (λ (t : List ℕ). CertBoundOutcome net front ids columns budget 4 (wide_check_line row t)) (sym same)
          (wide_check list bounds row column are_bounds (subst (FailsToCertify net list (is_named bounds)) is wide));
    }

-- ---- Commoner's verdict

module _ (net : Net) (front : List ℕ) (limit : ℕ) where
  pub limit_passed : {T : Type 0} (result : Result T Refusal) (refusal : Refusal) → IsErrAnd result (λ x. x ≡ refusal)
      → FailsWith (PassedLimit (IsGrownSet net) limit) refusal → IfErr result (FailsWith (CertVerdictOutcome net front limit))
  limit_passed result refusal same fails =
      err_goes (FailsWith (CertVerdictOutcome net front limit)) result refusal same
      (fails_so _ _ refusal (λ status line is. no_verdict status line is) fails)

  pub verdict_made : (verdict : Verdict) (certificate : Certificate) (text : List ℕ) → HasAtMostGrown net limit → IsVerdict net verdict
      → CertifiesVerdict net verdict certificate → text ≡ front ++ certificate_text certificate → CertVerdictOutcome net front limit 0 text
  verdict_made verdict certificate text few is certifies same =
      subst (λ (t : List ℕ). CertVerdictOutcome net front limit 0 t) (sym same) (certified_verdict verdict certificate few is certifies)

pub is_verdict : (net : Net) (siphons : List (List Bool)) (verdict : Verdict) → IsTheList (slice_cmp bool_cmp) (IsMinimalSet net) siphons
    → (verdict ≡ Yes) ↔ MeetsCommoner net → NamesFirst net siphons verdict → IsVerdict net verdict
is_verdict net siphons verdict all exact first = record { exact = exact; siphons = siphons; all = all; first = first }

-- the siphon of a no
pub record IsUnsafe (net : Net) (siphon : List Bool) : Type 0 where
  pub minimal : IsMinimalSet net siphon
  pub lacks : HasMarkedTrap net (has siphon) → ⊥

unsafe_of : (net : Net) (siphon : List Bool) → IsVerdict net (No siphon) → IsUnsafe net siphon
unsafe_of net siphon is = record {
  minimal = (is.all.members siphon).0 (is_listed net is.siphons siphon is.first);
  lacks = is.first.lacks;
}

pub unsafe_siphon : (net : Net) (verdict : Verdict) (siphon : List Bool) → verdict ≡ No siphon → IsVerdict net verdict → IsUnsafe net siphon
unsafe_siphon net verdict siphon same is = unsafe_of net siphon (subst (IsVerdict net) same is)

pub certifies_no : (net : Net) (verdict : Verdict) (siphon : List Bool) (certificate : Certificate) → verdict ≡ No siphon
    → certificate ≡ BadSiphon (places_below net.places (has siphon)) → IsWellFormed certificate → IsAccepted net certificate
    → CertifiesVerdict net verdict certificate
certifies_no net verdict siphon certificate same is well holds =
    subst (λ (v : Verdict). CertifiesVerdict net v certificate) (sym same) (record { well_formed = well; accepted = holds; kind = is })

pub certifies_yes : (net : Net) (verdict : Verdict) (certificate : Certificate) → verdict ≡ Yes → IsForCommoner certificate → IsWellFormed certificate
    → IsAccepted net certificate → CertifiesVerdict net verdict certificate
certifies_yes net verdict certificate same is well holds =
    subst (λ (v : Verdict). CertifiesVerdict net v certificate) (sym same) (record { well_formed = well; accepted = holds; kind = is })

-- ---- `verify`

module _ (net : Net) (bytes : List ℕ) where
  pub malformed_told : (number : ℕ) (fault : ReadFault) → fault ≡ readings.BadLine number
      → ((k : ℕ) → fault ≡ readings.BadLine k → IsBadLine bytes k) → FailsWith (VerifyOutcome net bytes) (Malformed number)
  malformed_told number fault is bad =
      inr record { low = omega arith; not_usage = λ h. omega (arith, h); high = omega arith; outcome = malformed number (bad number is) }

  pub rejected_told : (certificate : Certificate) (number : ℕ) → Spells certificate bytes → IsFalseLine net certificate number
      → FailsWith (VerifyOutcome net bytes) (Rejected number)
  rejected_told certificate number spelled bad =
      inr record { low = omega arith; not_usage = λ h. omega (arith, h); high = omega arith; outcome = rejected certificate number spelled bad }

  pub accepted_told : (certificate : Certificate) (text : List ℕ) → Spells certificate bytes → IsAccepted net certificate
      → IsVerifiedText net certificate text → VerifyOutcome net bytes 0 text
  accepted_told certificate text spelled holds told = accepted certificate text spelled holds told
