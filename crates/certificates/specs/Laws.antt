-- Laws of certificates.
use Rattle.std.specs.Prelude.{◌≡◌, ◌⊎◌, ℕ, List}
use Rattle.net_values.specs.Net.{Net}
use Rattle.certificates.specs.declared.certificate.Certificate.{Certificate}
use Rattle.certificates.specs.BadLines.{Spells, IsBadLine}
use Rattle.certificates.specs.Claims.{HasTrueClaim, ExcludesDead}
use Rattle.certificates.specs.Conditions.{IsAccepted, IsFalseLine}
use Rattle.certificates.specs.WellFormed.{IsWellFormed}

-- bytes spell a certificate or have a bad line
abbrev pub ACertificateOrABadLine : Type 0
ACertificateOrABadLine = (bytes : List ℕ) → ((certificate : Certificate) × Spells certificate bytes) ⊎ ((number : ℕ) × IsBadLine bytes number)

-- only one of either, and not both
pub record OneReading (bytes : List ℕ) : Type 0 where
  pub certificate : (one other : Certificate) → Spells one bytes → Spells other bytes → one ≡ other
  pub line : (one other : ℕ) → IsBadLine bytes one → IsBadLine bytes other → one ≡ other
  pub apart : (certificate : Certificate) (number : ℕ) → Spells certificate bytes → IsBadLine bytes number → ⊥

-- a well-formed certificate is accepted by a net, or has a first false line
abbrev pub AcceptedOrAFalseLine : Type 0
AcceptedOrAFalseLine = (net : Net) (certificate : Certificate) → IsWellFormed certificate → IsAccepted net certificate ⊎ ((number : ℕ) × IsFalseLine net certificate number)

-- the first false line is one
abbrev pub OneFalseLine : Type 0
OneFalseLine = (net : Net) (certificate : Certificate) (one other : ℕ) → IsFalseLine net certificate one → IsFalseLine net certificate other → one ≡ other

-- what an accepted certificate claims is true of the net
abbrev pub AcceptedClaimsAreTrue : Type 0
AcceptedClaimsAreTrue = (net : Net) (certificate : Certificate) → IsWellFormed certificate → IsAccepted net certificate → HasTrueClaim net certificate × ExcludesDead net certificate
