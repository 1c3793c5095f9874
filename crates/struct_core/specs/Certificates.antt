-- What `cert-bounds`, `cert-commoner` and `verify` tell of a net. What the first two write is what `verify` reads: the
-- canonical text of the document, which is one line, and after it a certificate.
use Rattle.std.specs.Prelude.{◌≡◌, ◌≢◌, ℕ, List, Option, ◌++◌, length}
use Rattle.net_values.specs.Net.{Net}
use Rattle.net_values.specs.PlaceSets.{has}
use Rattle.bounds.specs.declared.place_bound.PlaceBound.{PlaceBound}
use Rattle.certificates.specs.declared.certificate.Certificate.{Certificate}
use Rattle.certificates.specs.declared.certificate.Certificate.TheVariants.{BadSiphon}
use Rattle.certificates.specs.BadLines.{Spells, IsBadLine}
use Rattle.certificates.specs.Claims.{IsForCommoner}
use Rattle.certificates.specs.Conditions.{IsAccepted, IsFalseLine}
use Rattle.certificates.specs.Spelling.{certificate_text}
use Rattle.certificates.specs.WellFormed.{IsWellFormed}
use Rattle.cert_make.specs.BoundCertificates.{bounds_certificate, is_named, AreNarrowFlows, IsFirstWideCheck}
use Rattle.cert_make.specs.PlaceLists.{places_below}
use Rattle.net_class.specs.declared.verdict.Verdict.{Verdict}
use Rattle.net_class.specs.declared.verdict.Verdict.TheVariants.{Yes, No}
use Rattle.siphon_branch.specs.Limits.{HasAtMostGrown, IsGrownSet}
use Rattle.report.specs.FaultLines.{wide_check_line, malformed_line, rejected_line}
use Rattle.report.specs.VerifiedTexts.{IsVerifiedText}
use Rattle.struct_core.specs.Enumerations.{PassedLimit}
use Rattle.struct_core.specs.Verdicts.{AreBounds, BoundOutcome, IsVerdict}

-- for the certificate of the bounds; `front` is the canonical text of the document
pub data CertBoundOutcome (net : Net) (front : List ℕ) (ids columns : ℕ → List ℕ) (budget : ℕ) : ℕ → List ℕ → Type 0 where
  -- the semiflows that give the bounds are narrow: they are the flows, and each bounded place has its claim
  certified : (list : List (List ℕ)) (bounds : List (Option PlaceBound)) → AreBounds net budget list bounds
      → AreNarrowFlows net list (is_named bounds) (length list)
      → CertBoundOutcome net front ids columns budget 0 (front ++ certificate_text (bounds_certificate list bounds))
  -- the first of them that has a wide sum, at its first such column
  wide_check : (list : List (List ℕ)) (bounds : List (Option PlaceBound)) (row column : ℕ) → AreBounds net budget list bounds
      → IsFirstWideCheck net list (is_named bounds) row column
      → CertBoundOutcome net front ids columns budget 4 (wide_check_line row (columns column))
  -- there are no bounds, and the line is that of `bounds`
  no_bounds : (status : ℕ) (line : List ℕ) → status ≢ 0 → BoundOutcome net ids columns budget status line
      → CertBoundOutcome net front ids columns budget status line

-- of a verdict: for a yes a tree, whichever is made, for a no its siphon
abbrev pub IsOfVerdict : Net → Verdict → Certificate → Type 0
IsOfVerdict net Yes certificate = IsForCommoner certificate
IsOfVerdict net (No siphon) certificate = certificate ≡ BadSiphon (places_below net.places (has siphon))

-- a well-formed certificate of the verdict, each of whose lines holds
pub record CertifiesVerdict (net : Net) (verdict : Verdict) (certificate : Certificate) : Type 0 where
  pub well_formed : IsWellFormed certificate
  pub accepted : IsAccepted net certificate
  pub kind : IsOfVerdict net verdict certificate

-- for the certificate of Commoner's verdict
pub data CertVerdictOutcome (net : Net) (front : List ℕ) (limit : ℕ) : ℕ → List ℕ → Type 0 where
  certified_verdict : (verdict : Verdict) (certificate : Certificate) → HasAtMostGrown net limit → IsVerdict net verdict
      → CertifiesVerdict net verdict certificate
      → CertVerdictOutcome net front limit 0 (front ++ certificate_text certificate)
  no_verdict : (status : ℕ) (line : List ℕ) → PassedLimit (IsGrownSet net) limit status line
      → CertVerdictOutcome net front limit status line

-- for the certificate that the bytes spell
pub data VerifyOutcome (net : Net) (bytes : List ℕ) : ℕ → List ℕ → Type 0 where
  -- they spell none, by the first line that begins none
  malformed : (number : ℕ) → IsBadLine bytes number → VerifyOutcome net bytes 1 (malformed_line number)
  -- the first line whose condition is false of the net
  rejected : (certificate : Certificate) (number : ℕ) → Spells certificate bytes → IsFalseLine net certificate number
      → VerifyOutcome net bytes 1 (rejected_line number)
  -- each line holds
  accepted : (certificate : Certificate) (text : List ℕ) → Spells certificate bytes → IsAccepted net certificate
      → IsVerifiedText net certificate text → VerifyOutcome net bytes 0 text
