-- That each certificate is there where it is asked for.
use Rattle.std.specs.Prelude.{ℕ, ◌≤◌, ◌⊎◌, Bool, List, length}
use Rattle.net_values.specs.Net.{Net}
use Rattle.net_values.specs.declared.limits.TheConstants.{MAX_PLACES}
use Rattle.closed_sets.specs.Commoner.{MeetsCommoner}
use Rattle.certificates.specs.declared.certificate.Certificate.{Certificate}
use Rattle.certificates.specs.Claims.{IsForCommoner}
use Rattle.certificates.specs.Conditions.{IsAccepted}
use Rattle.certificates.specs.WellFormed.{IsWellFormed}
use Rattle.cert_make.specs.BoundCertificates.{AreNarrowFlows, IsFirstWideCheck}

-- a net within the limits that meets Commoner's condition has a certificate for it
abbrev pub CommonerHasCertificate : Net → Type 0
CommonerHasCertificate net = net.places ≤ MAX_PLACES → MeetsCommoner net → (certificate : Certificate) × IsForCommoner certificate × IsWellFormed certificate × IsAccepted net certificate

-- the named rows are narrow at every column, or there is a first wide check
abbrev pub NarrowOrWide : Net → List (List ℕ) → (ℕ → Bool) → Type 0
NarrowOrWide net rows named = AreNarrowFlows net rows named (length rows) ⊎ ((row : ℕ) × (column : ℕ) × IsFirstWideCheck net rows named row column)
