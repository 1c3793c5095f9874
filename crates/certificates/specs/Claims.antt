-- What a certificate claims of a net.
use Rattle.std.specs.Prelude.{ℕ, ◌<◌, ◌≤◌, List, All}
use Rattle.net_values.specs.Net.{Net}
use Rattle.net_values.specs.TokenGame.{IsReachable}
use Rattle.net_values.specs.Vectors.{positive_part}
use Rattle.closed_sets.specs.ClosedSets.{IsSiphon, IsNonempty}
use Rattle.closed_sets.specs.Commoner.{HasMarkedTrap, IsDeadlockFree, IsOrdinary, MeetsCommoner}
use Rattle.certificates.specs.declared.certificate.Certificate.{Certificate}
use Rattle.certificates.specs.declared.certificate.Certificate.TheVariants.{Bounds, BadSiphon, Commoner}
use Rattle.certificates.specs.declared.certificate.Claim.{Claim}
use Rattle.certificates.specs.Conditions.{is_listed}

-- at every reachable marking the place has at most as many tokens as the bound says
abbrev pub BoundHolds : Net → Claim → Type 0
BoundHolds net claim = (M : ℕ → ℕ) → IsReachable net M → M claim.place ≤ positive_part claim.bound

-- the places are a nonempty siphon without a marked trap in it, so that Commoner's condition is false
pub record ArgueAgainst (net : Net) (places : List ℕ) : Type 0 where
  pub siphon : IsSiphon net (is_listed places)
  pub nonempty : IsNonempty net (is_listed places)
  pub bad : HasMarkedTrap net (is_listed places) → ⊥
  pub fails : MeetsCommoner net → ⊥

abbrev pub HasTrueClaim : Net → Certificate → Type 0
HasTrueClaim net (Bounds lines) = All (BoundHolds net) lines.claims
HasTrueClaim net (BadSiphon places) = ArgueAgainst net places
HasTrueClaim net (Commoner tree) = MeetsCommoner net

-- the certificate is for Commoner's condition
abbrev pub IsForCommoner : Certificate → Type 0
IsForCommoner (Bounds lines) = ⊥
IsForCommoner (BadSiphon places) = ⊥
IsForCommoner (Commoner tree) = Unit {0}

-- a certificate for Commoner's condition on an ordinary net with a transition excludes every dead reachable marking
abbrev pub ExcludesDead : Net → Certificate → Type 0
ExcludesDead net certificate = IsForCommoner certificate → IsOrdinary net → 0 < net.transitions → IsDeadlockFree net
