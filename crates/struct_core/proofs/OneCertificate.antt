-- A net has one certificate of its bounds, and bytes have one answer to whether they spell a certificate that the net
-- accepts. Only the tree of a certificate for Commoner's condition is free.
use Rattle.std.proofs.Common.{◌≡◌, ◌≢◌, ◌⊎◌, ℕ, ◌≤◌, List, ◌++◌, Option, Some, None, length, refl, sym, ap, subst, ◌∙◌, arith, inl, inr}
use Rattle.std.specs.Prelude.{Bool, codes}
use Rattle.std.proofs.lemmas.Bool.{cases_lt}
use Rattle.std.proofs.lemmas.List.{same_lists, get_or_default}
use Rattle.net_values.specs.declared.document.Document.{Document}
use Rattle.net_values.specs.Net.{Net}
use Rattle.bounds.specs.declared.place_bound.PlaceBound.{PlaceBound}
use Rattle.bounds.specs.LeastBound.{bound_by}
use Rattle.bounds.specs.Listed.{kept_at, row_at, IsLeastOfRows, NameFirstRows}
use Rattle.certificates.specs.declared.certificate.Certificate.{Certificate}
use Rattle.certificates.specs.declared.certificate.Certificate.TheVariants.{Bounds, BadSiphon, Commoner}
use Rattle.certificates.specs.BadLines.{Spells}
use Rattle.certificates.specs.Conditions.{IsAccepted, IsFalseLine, LineHolds}
use Rattle.certificates.specs.Spelling.{certificate_text}
use Rattle.cert_make.specs.BoundCertificates.{bounds_certificate, is_named, IsFirstWide, AreNarrowFlows, IsFirstWideCheck}
use Rattle.incidence.specs.Matrix.{incidence_of}
use Rattle.net_class.specs.declared.verdict.Verdict.{Verdict}
use Rattle.net_class.specs.declared.verdict.Verdict.TheVariants.{Yes, No}
use Rattle.pnml_grammar.specs.Canon.{canon}
use Rattle.siphon_branch.proofs.Limits.{few_not_many}
use Rattle.report.specs.FaultLines.{wide_check_line, malformed_line, rejected_line}
use Rattle.report.specs.Texts.{bounds_text}
use Rattle.report.specs.VerdictTexts.{CommonerSuffices, deadlock_line}
use Rattle.report.specs.VerifiedTexts.{IsVerifiedText}
use Rattle.struct_core.specs.Certificates.{CertBoundOutcome, certified, wide_check, no_bounds, IsOfVerdict, CertVerdictOutcome, certified_verdict, no_verdict, VerifyOutcome, malformed, rejected, accepted}
use Rattle.struct_core.specs.Determined.{DifferInTree}
use Rattle.struct_core.specs.Verdicts.{AreBounds, BoundOutcome, all_bounds}
use Rattle.certificates.proofs.OneReading.{one_reading}
use Rattle.struct_core.proofs.OneListing.{one_semiflow_list, few_or_passed, one_passing}
use Rattle.struct_core.proofs.OneVerdict.{one_bound_outcome, one_verdict}
use Rattle.struct_core.proofs.Truths.{same_answer}

-- ---- the bounds with their rows

abbrev kept_by : ℕ → ℕ → PlaceBound
kept_by bound row = record { bound = bound; row = row }

-- the first row that gives the least bound is one
one_kept : (net : Net) (list : List (List ℕ)) (n p : ℕ) (one other : Option PlaceBound) → IsLeastOfRows net list n p one → IsLeastOfRows net list n p other
    → one ≡ other
one_kept net list n p None None is also = refl
one_kept net list n p None (Some b) is also = absurd (omega (arith, also.covers, is b.row also.within))
one_kept net list n p (Some a) None is also = absurd (omega (arith, is.covers, also a.row is.within))
one_kept net list n p (Some a) (Some b) is also =
    let low : a.bound ≤ bound_by net (row_at list b.row) p = is.least b.row also.within also.covers in
    let high : b.bound ≤ bound_by net (row_at list a.row) p = also.least a.row is.within is.covers in
    let bound : a.bound ≡ b.bound = omega (arith, low, high, is.gives, also.gives) in
    let row : a.row ≡ b.row = elim (cases_lt a.row b.row) [
      | inl before ↦ (let less = also.first a.row before is.covers in absurd (omega (arith, less, low, is.gives, also.gives)))
      | inr from ↦ elim (cases_lt b.row a.row) [
        | inl before ↦ (let less = is.first b.row before also.covers in absurd (omega (arith, less, high, is.gives, also.gives)))
        | inr to ↦ omega (arith, from, to)
      ]
    ] in
    ap Some (ap (λ (n : ℕ). kept_by n a.row) bound ∙ ap (λ (k : ℕ). kept_by b.bound k) row)

one_bounds : (net : Net) (list : List (List ℕ)) (one other : List (Option PlaceBound)) → length one ≡ net.places → length other ≡ net.places
    → NameFirstRows net list one → NameFirstRows net list other → one ≡ other
one_bounds net list one other size also first too =
    same_lists one other (size ∙ sym also) (λ p d under.
    get_or_default one p d None under
    ∙ one_kept net list (length list) p (kept_at one p) (kept_at other p) (first p (omega (arith, size, under))) (too p (omega (arith, size, under)))
    ∙ get_or_default other p None d (omega (arith, size, also, under)))

-- a list and its bounds
record AreSame (rows others : List (List ℕ)) (one other : List (Option PlaceBound)) : Type 0 where
  pub list : rows ≡ others
  pub bounds : one ≡ other

same_bounds : (net : Net) (budget : ℕ) (list others : List (List ℕ)) (one other : List (Option PlaceBound)) → AreBounds net budget list one
    → AreBounds net budget others other → AreSame list others one other
same_bounds net budget list others one other are also =
    let same = one_semiflow_list (incidence_of net) budget list others are.listed also.listed in record {
      list = same;
      bounds = one_bounds net others one other are.size also.size (subst (λ (rows : List (List ℕ)). NameFirstRows net rows one) same are.first) also.first;
    }

-- the bounds have their text in `bounds`
as_bounds : (net : Net) (ids columns : ℕ → List ℕ) (budget : ℕ) (list : List (List ℕ)) (bounds : List (Option PlaceBound)) → AreBounds net budget list bounds
    → BoundOutcome net ids columns budget 0 (bounds_text ids bounds)
as_bounds net ids columns budget list bounds are = all_bounds list bounds are.listed are.narrow are.size are.least

not_without : (net : Net) (ids columns : ℕ → List ℕ) (budget status : ℕ) (line : List ℕ) (list : List (List ℕ)) (bounds : List (Option PlaceBound))
    → AreBounds net budget list bounds → status ≢ 0 → BoundOutcome net ids columns budget status line → ⊥
not_without net ids columns budget status line list bounds are other outcome =
    other (sym (one_bound_outcome net ids columns budget 0 status (bounds_text ids bounds) line (as_bounds net ids columns budget list bounds are) outcome).0)

-- ---- wide sums

one_column : (net : Net) (y : ℕ → ℕ) (one other : ℕ) → IsFirstWide net y one → IsFirstWide net y other → one ≡ other
one_column net y one other is also = elim (cases_lt one other) [
  | inl before ↦ absurd (is.wide (also.before one before))
  | inr from ↦ elim (cases_lt other one) [
    | inl before ↦ absurd (also.wide (is.before other before))
    | inr to ↦ omega (arith, from, to)
  ]
]

one_row : (net : Net) (list : List (List ℕ)) (named : ℕ → Bool) (one other column another : ℕ) → IsFirstWideCheck net list named one column
    → IsFirstWideCheck net list named other another → one ≡ other
one_row net list named one other column another is also = elim (cases_lt one other) [
  | inl before ↦ absurd (is.wide.wide (also.before one before is.used column is.wide.within))
  | inr from ↦ elim (cases_lt other one) [
    | inl before ↦ absurd (also.wide.wide (is.before other before also.used another also.wide.within))
    | inr to ↦ omega (arith, from, to)
  ]
]

one_wide_check : (net : Net) (columns : ℕ → List ℕ) (list : List (List ℕ)) (named : ℕ → Bool) (one other column another : ℕ)
    → IsFirstWideCheck net list named one column → IsFirstWideCheck net list named other another
    → wide_check_line one (columns column) ≡ wide_check_line other (columns another)
one_wide_check net columns list named one other column another is also =
    let row = one_row net list named one other column another is also in
    ap (λ (k : ℕ). wide_check_line k (columns column)) row
    ∙ ap (λ (t : ℕ). wide_check_line other (columns t))
    (one_column net (row_at list other) column another (subst (λ (k : ℕ). IsFirstWide net (row_at list k) column) row is.wide) also.wide)

check_as : (net : Net) (list others : List (List ℕ)) (one other : List (Option PlaceBound)) (row column : ℕ) → AreSame list others one other
    → IsFirstWideCheck net list (is_named one) row column → IsFirstWideCheck net others (is_named other) row column
check_as net list others one other row column same wide =
    subst (λ (bounds : List (Option PlaceBound)). IsFirstWideCheck net others (is_named bounds) row column) same.bounds
    (subst (λ (rows : List (List ℕ)). IsFirstWideCheck net rows (is_named one) row column) same.list wide)

not_both : (net : Net) (list : List (List ℕ)) (named : ℕ → Bool) (row column : ℕ) → AreNarrowFlows net list named (length list)
    → IsFirstWideCheck net list named row column → ⊥
not_both net list named row column narrow wide = wide.wide.wide (narrow row wide.within wide.used column wide.wide.within)

pub one_cert_bound_outcome : (net : Net) (front : List ℕ) (ids columns : ℕ → List ℕ) (budget status other : ℕ) (text line : List ℕ)
    → CertBoundOutcome net front ids columns budget status text → CertBoundOutcome net front ids columns budget other line
    → (status ≡ other) × (text ≡ line)
one_cert_bound_outcome net front ids columns budget _ _ _ _ (certified list one are narrow) (certified others other also too) =
    let same = same_bounds net budget list others one other are also in (
      refl,
      ap (λ (rows : List (List ℕ)). front ++ certificate_text (bounds_certificate rows one)) same.list
          ∙ ap (λ (bounds : List (Option PlaceBound)). front ++ certificate_text (bounds_certificate others bounds)) same.bounds,
    )
one_cert_bound_outcome net front ids columns budget _ _ _ _ (certified list one are narrow) (wide_check others other row column also wide) =
    let same = same_bounds net budget others list other one also are in
    absurd (not_both net list (is_named one) row column narrow (check_as net others list other one row column same wide))
one_cert_bound_outcome net front ids columns budget _ _ _ _ (certified list one are narrow) (no_bounds status line other outcome) =
    absurd (not_without net ids columns budget status line list one are other outcome)
one_cert_bound_outcome net front ids columns budget _ _ _ _ (wide_check others other row column also wide) (certified list one are narrow) =
    let same = same_bounds net budget others list other one also are in
    absurd (not_both net list (is_named one) row column narrow (check_as net others list other one row column same wide))
one_cert_bound_outcome net front ids columns budget _ _ _ _ (wide_check list one row column are wide) (wide_check others other another place also too) =
    let same = same_bounds net budget list others one other are also in
    (refl, one_wide_check net columns others (is_named other) row another column place (check_as net list others one other row column same wide) too)
one_cert_bound_outcome net front ids columns budget _ _ _ _ (wide_check list one row column are wide) (no_bounds status line other outcome) =
    absurd (not_without net ids columns budget status line list one are other outcome)
one_cert_bound_outcome net front ids columns budget _ _ _ _ (no_bounds status line other outcome) (certified list one are narrow) =
    absurd (not_without net ids columns budget status line list one are other outcome)
one_cert_bound_outcome net front ids columns budget _ _ _ _ (no_bounds status line other outcome) (wide_check list one row column are wide) =
    absurd (not_without net ids columns budget status line list one are other outcome)
one_cert_bound_outcome net front ids columns budget _ _ _ _ (no_bounds status line nonzero outcome) (no_bounds other text too also) =
    one_bound_outcome net ids columns budget status other line text outcome also

-- ---- Commoner's verdict

trees_or_same : (net : Net) (document : Document) (verdict : Verdict) (one other : Certificate) → IsOfVerdict net verdict one → IsOfVerdict net verdict other
    → (canon document ++ certificate_text one ≡ canon document ++ certificate_text other)
    ⊎ DifferInTree (canon document ++ certificate_text one) (canon document ++ certificate_text other)
trees_or_same net document Yes (Commoner one) (Commoner other) is also =
    inr record { document = document; one = one; other = other; text_is = refl; line_is = refl }
trees_or_same net document Yes (Commoner one) (Bounds lines) is also = absurd also
trees_or_same net document Yes (Commoner one) (BadSiphon places) is also = absurd also
trees_or_same net document Yes (Bounds lines) other is also = absurd is
trees_or_same net document Yes (BadSiphon places) other is also = absurd is
trees_or_same net document (No siphon) one other is also = inl (ap (λ (c : Certificate). canon document ++ certificate_text c) (is ∙ sym also))

pub one_cert_verdict_outcome : (net : Net) (document : Document) (limit status other : ℕ) (text line : List ℕ)
    → CertVerdictOutcome net (canon document) limit status text → CertVerdictOutcome net (canon document) limit other line
    → (status ≡ other) × ((text ≡ line) ⊎ DifferInTree text line)
one_cert_verdict_outcome net document limit _ _ _ _ (certified_verdict one certificate few is certifies) (certified_verdict other another few_too also too) =
    let same = one_verdict net other one also is in
    (refl, trees_or_same net document one certificate another certifies.kind (subst (λ (v : Verdict). IsOfVerdict net v another) same too.kind))
one_cert_verdict_outcome net document limit _ _ _ _ (certified_verdict one certificate few is certifies) (no_verdict status line passed) =
    absurd (few_or_passed _ limit status line (λ carried. (few_not_many net limit carried).siphons) few passed)
one_cert_verdict_outcome net document limit _ _ _ _ (no_verdict status line passed) (certified_verdict one certificate few is certifies) =
    absurd (few_or_passed _ limit status line (λ carried. (few_not_many net limit carried).siphons) few passed)
one_cert_verdict_outcome net document limit _ _ _ _ (no_verdict status line passed) (no_verdict other text also) =
    let same = one_passing _ limit status other line text passed also in (same.0, inl same.1)

-- ---- `verify`

one_false : (net : Net) (certificate : Certificate) (one other : ℕ) → IsFalseLine net certificate one → IsFalseLine net certificate other → one ≡ other
one_false net certificate one other is also = elim (cases_lt one other) [
  | inl before ↦ absurd (is.fails (also.before one before))
  | inr from ↦ elim (cases_lt other one) [
    | inl before ↦ absurd (also.fails (is.before other before))
    | inr to ↦ omega (arith, from, to)
  ]
]

one_verified_text : (net : Net) (certificate : Certificate) (text line : List ℕ) → IsVerifiedText net certificate text → IsVerifiedText net certificate line
    → text ≡ line
one_verified_text net (Bounds lines) text line is also = is ∙ sym also
one_verified_text net (BadSiphon places) text line is also = is ∙ sym also
one_verified_text net (Commoner tree) text line is also =
    is.spelled
    ∙ ap (λ (proved : Bool). codes "accepted commoner\n" ++ deadlock_line proved) (same_answer is.is_proved also.is_proved (CommonerSuffices net) is.exact also.exact)
    ∙ sym also.spelled

module _ (net : Net) (bytes : List ℕ) where
  same_one : (one other : Certificate) → Spells one bytes → Spells other bytes → one ≡ other
  same_one = (one_reading bytes).certificate

  accepted_and_false : (one other : Certificate) (number : ℕ) → Spells one bytes → Spells other bytes → IsAccepted net one
      → IsFalseLine net other number → ⊥
  accepted_and_false one other number is also holds false_line =
      false_line.fails (subst (λ (c : Certificate). LineHolds net c number) (same_one one other is also) (holds number))

  pub one_verify_outcome : (status other : ℕ) (text line : List ℕ) → VerifyOutcome net bytes status text → VerifyOutcome net bytes other line
      → (status ≡ other) × (text ≡ line)
  one_verify_outcome _ _ _ _ (malformed number bad) (malformed another also) = (refl, ap malformed_line ((one_reading bytes).line number another bad also))
  one_verify_outcome _ _ _ _ (malformed number bad) (rejected certificate another also is) = absurd ((one_reading bytes).apart certificate number also bad)
  one_verify_outcome _ _ _ _ (malformed number bad) (accepted certificate text also holds told) = absurd ((one_reading bytes).apart certificate number also bad)
  one_verify_outcome _ _ _ _ (rejected certificate number spelled is) (malformed another bad) = absurd ((one_reading bytes).apart certificate another spelled bad)
  one_verify_outcome _ _ _ _ (rejected certificate number spelled is) (rejected other another also too) =
      let same = same_one certificate other spelled also in
      (refl, ap rejected_line (one_false net other number another (subst (λ (c : Certificate). IsFalseLine net c number) same is) too))
  one_verify_outcome _ _ _ _ (rejected certificate number spelled is) (accepted other text also holds told) =
      absurd (accepted_and_false other certificate number also spelled holds is)
  one_verify_outcome _ _ _ _ (accepted certificate text spelled holds told) (malformed another bad) = absurd ((one_reading bytes).apart certificate another spelled bad)
  one_verify_outcome _ _ _ _ (accepted certificate text spelled holds told) (rejected other number also is) =
      absurd (accepted_and_false certificate other number spelled also holds is)
  one_verify_outcome _ _ _ _ (accepted certificate text spelled holds told) (accepted other line also too printed) =
      let same = same_one other certificate also spelled in
      (refl, one_verified_text net certificate text line told (subst (λ (c : Certificate). IsVerifiedText net c line) same printed))
