-- What an accepted certificate tells: its claim is true of the net, and the text tells of which kind it is.
use Rattle.std.proofs.Common.{◌≡◌, ℕ, List, ◌++◌, refl, ap, subst, arith}
use Rattle.std.specs.Prelude.{Bool, true, false, codes, slice_index}
use Rattle.net_values.specs.FlatNets.{net_of}
use Rattle.net_values.specs.Net.{Net}
use Rattle.closed_sets.specs.Commoner.{IsDeadlockFree}
use Rattle.certificates.specs.declared.certificate.Certificate.{Certificate}
use Rattle.certificates.specs.declared.certificate.Certificate.TheVariants.{Bounds, BadSiphon, Commoner}
use Rattle.certificates.specs.BadLines.{Spells}
use Rattle.certificates.specs.Claims.{ExcludesDead}
use Rattle.certificates.specs.Conditions.{IsAccepted}
use Rattle.report.specs.VerdictTexts.{deadlock_line}
use Rattle.report.specs.VerifiedTexts.{IsVerifiedText}
use Rattle.struct_core.specs.Certificates.{VerifyOutcome, malformed, rejected, accepted}
use Rattle.struct_core.specs.Laws.{IsTrueCertificate, AcceptedCertificatesAreTrue}
use Rattle.cert_check.proofs.Claims.{true_claim, excludes_dead}

abbrev safe_text : List ℕ
safe_text = codes "accepted commoner\ndeadlock-free proved\n"

-- the letter after `accepted ` or the next one tells the other kinds, and the one after `deadlock-free ` that
-- nothing is proved
is_proved : (proved : Bool) → safe_text ≡ codes "accepted commoner\n" ++ deadlock_line proved → proved ≡ true
is_proved true same = refl
is_proved false same = (let e : 112 ≡ 117 = ap (λ (t : List ℕ). slice_index t 32) same in absurd (omega (arith, e)))

safe : (net : Net) (certificate : Certificate) → ExcludesDead net certificate → IsVerifiedText net certificate safe_text → IsDeadlockFree net
safe net (Bounds lines) excludes told = (let e : 99 ≡ 98 = ap (λ (t : List ℕ). slice_index t 9) told in absurd (omega (arith, e)))
safe net (BadSiphon places) excludes told = (let e : 99 ≡ 98 = ap (λ (t : List ℕ). slice_index t 9) told in absurd (omega (arith, e)))
safe net (Commoner tree) excludes told =
    let proof = told.exact.0 (is_proved told.is_proved told.spelled) in
    excludes tt proof.ordinary proof.some_transition

true_certificate : (net : Net) (bytes : List ℕ) (certificate : Certificate) (text : List ℕ) → Spells certificate bytes → IsAccepted net certificate
    → IsVerifiedText net certificate text → IsTrueCertificate net bytes text
true_certificate net bytes certificate text spelled holds told =
    record {
      certificate = certificate;
      spelled = spelled;
      told = told;
      claim = true_claim net certificate spelled.well_formed holds;
      safe = λ same. safe net certificate (excludes_dead net certificate spelled.well_formed holds)
          (subst (λ (t : List ℕ). IsVerifiedText net certificate t) same told);
    }

of_outcome : (net : Net) (bytes : List ℕ) (status : ℕ) (text : List ℕ) → VerifyOutcome net bytes status text → status ≡ 0 → IsTrueCertificate net bytes text
of_outcome net bytes _ _ (malformed number bad) zero_is = absurd (omega (arith, zero_is))
of_outcome net bytes _ _ (rejected certificate number spelled bad) zero_is = absurd (omega (arith, zero_is))
of_outcome net bytes _ _ (accepted certificate text spelled holds told) zero_is = true_certificate net bytes certificate text spelled holds told

pub accepted_are_true : AcceptedCertificatesAreTrue
accepted_are_true budgets document net rest text outcome = of_outcome (net_of net) rest 0 text outcome refl
