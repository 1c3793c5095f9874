-- Well-formed certificates: numbers in their ranges, places in ascending order, and one tree.
use Rattle.std.specs.Prelude.{◌≡◌, ℕ, zero, suc, ◌<◌, ◌≤◌, ◌^◌, ℤ, pos, negsuc, List, [], ◌∷◌, length, All, AllPairs}
use Rattle.net_values.specs.declared.limits.TheConstants.{MAX_PLACES}
use Rattle.certificates.specs.declared.certificate.Certificate.{Certificate}
use Rattle.certificates.specs.declared.certificate.Certificate.TheVariants.{Bounds, BadSiphon, Commoner}
use Rattle.certificates.specs.declared.certificate.Claim.{Claim}
use Rattle.certificates.specs.declared.certificate.TreeLine.{TreeLine}
use Rattle.certificates.specs.declared.certificate.TreeLine.TheVariants.{Split, Empty, Trap}

-- a number from the least to 2^127 - 1
abbrev pub IsNumberFrom : ℕ → ℤ → Type 0
IsNumberFrom least (pos n) = (least ≤ n) × (n < 2 ^ 127)
IsNumberFrom least (negsuc n) = ⊥

-- a flow: one or more places in ascending order, each with a positive coefficient
pub record IsFlow (flow : List (ℕ × ℤ)) : Type 0 where
  pub some : 1 ≤ length flow
  pub ascending : AllPairs (λ one later. one.0 < later.0) flow
  pub places : All (λ term. term.0 < MAX_PLACES) flow
  pub coefficients : All (λ term. IsNumberFrom 1 term.1) flow

-- claims: places in ascending order, each with a bound and the number of a flow, from 1
pub record AreClaims (claims : List Claim) : Type 0 where
  pub ascending : AllPairs (λ one later. one.place < later.place) claims
  pub places : All (λ claim. claim.place < MAX_PLACES) claims
  pub bounds : All (λ claim. IsNumberFrom 0 claim.bound) claims
  pub flows : All (λ claim. (1 ≤ claim.flow) × (claim.flow < 2 ^ 32)) claims

-- one or more places in ascending order
pub record ArePlaces (places : List ℕ) : Type 0 where
  pub some : 1 ≤ length places
  pub ascending : AllPairs (λ one later. one < later) places
  pub within : All (λ p. p < MAX_PLACES) places

-- the place of a split is in its range
abbrev pub IsTreeLine : TreeLine → Type 0
IsTreeLine (Split p) = p < MAX_PLACES
IsTreeLine Empty = Unit {0}
IsTreeLine Trap = Unit {0}

-- the lines are so many trees in preorder, one after the other: a split is followed by two trees
abbrev pub AreTrees : List TreeLine → ℕ → Type 0
AreTrees [] count = count ≡ 0
AreTrees (line ∷ lines) zero = ⊥
AreTrees (Split p ∷ lines) (suc count) = AreTrees lines (suc (suc count))
AreTrees (Empty ∷ lines) (suc count) = AreTrees lines count
AreTrees (Trap ∷ lines) (suc count) = AreTrees lines count

-- the lines are one tree
pub record IsTree (lines : List TreeLine) : Type 0 where
  pub within : All IsTreeLine lines
  pub one : AreTrees lines 1

abbrev pub IsWellFormed : Certificate → Type 0
IsWellFormed (Bounds lines) = All IsFlow lines.flows × AreClaims lines.claims
IsWellFormed (BadSiphon places) = ArePlaces places
IsWellFormed (Commoner tree) = IsTree tree
