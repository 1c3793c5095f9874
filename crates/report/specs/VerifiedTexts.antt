-- The text of `verify` for an accepted certificate.
use Rattle.std.specs.Prelude.{◌≡◌, ◌↔◌, List, ℕ, Bool, IsTrue, ◌++◌, codes}
use Rattle.net_values.specs.Net.{Net}
use Rattle.certificates.specs.declared.certificate.Certificate.{Certificate}
use Rattle.certificates.specs.declared.certificate.Certificate.TheVariants.{Bounds, BadSiphon, Commoner}
use Rattle.report.specs.VerdictTexts.{CommonerSuffices, deadlock_line}

-- for a tree, also whether it proves that no reachable marking is dead, as a yes of `commoner` does
pub record IsTreeText (net : Net) (text : List ℕ) : Type 0 where
  pub is_proved : Bool
  pub exact : IsTrue is_proved ↔ CommonerSuffices net
  pub spelled : text ≡ codes "accepted commoner\n" ++ deadlock_line is_proved

-- the kind of the certificate
abbrev pub IsVerifiedText : Net → Certificate → List ℕ → Type 0
IsVerifiedText net (Bounds lines) text = text ≡ codes "accepted bounds\n"
IsVerifiedText net (BadSiphon places) text = text ≡ codes "accepted bad-siphon\n"
IsVerifiedText net (Commoner tree) text = IsTreeText net text
