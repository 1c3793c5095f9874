-- What a vector of coefficients meets at the transitions of a net.
use Rattle.std.specs.Prelude.{◌≡◌, ℕ, ℤ, ◌+◌, ◌/◌, ◌<◌, ◌≤◌, List, length, All, slice_index_or}
use Rattle.net_values.specs.Net.{Net}
use Rattle.net_values.specs.Vectors.{positive_part}
use Rattle.incidence.specs.Invariance.{weighted_tokens}
use Rattle.incidence.specs.Matrix.{AreNarrow, gain_sum, loss_sum, incidence_of}
use Rattle.certificates.specs.declared.certificate.Claim.{Claim}
use Rattle.certificates.specs.WellFormed.{IsNumberFrom}

-- at the transition the vector gains what it loses, and neither sum exceeds 2^127 - 1
pub record IsBalancedAt (net : Net) (y : ℕ → ℕ) (t : ℕ) : Type 0 where
  pub same : gain_sum (incidence_of net) t y ≡ loss_sum (incidence_of net) t y
  pub narrow : AreNarrow (incidence_of net) t y

-- so it is at each transition
abbrev pub IsBalanced : Net → (ℕ → ℕ) → Type 0
IsBalanced net y = (t : ℕ) → t < net.transitions → IsBalancedAt net y t

-- each place of the flow is in the net
abbrev pub LiesWithin : ℕ → List (ℕ × ℤ) → Type 0
LiesWithin places flow = All (λ term. term.0 < places) flow

-- the vector covers the place, and the bound is no less than its weighted tokens by its coefficient there
pub record BoundsPlace (net : Net) (y : ℕ → ℕ) (p : ℕ) (bound : ℤ) : Type 0 where
  pub covers : 0 < y p
  pub enough : weighted_tokens net y net.initial / y p ≤ positive_part bound

-- the bound and the number of the flow of a claim are in their ranges
pub record IsClaim (claim : Claim) : Type 0 where
  pub bound : IsNumberFrom 0 claim.bound
  pub flow : 1 ≤ claim.flow

-- the number is that of the first member of a list that lacks the property, where the first member has this number
pub record FailsFirst {X : Type 0} (Property : X → Type 0) (list : List X) (start number : ℕ) : Type 0 where
  pub index : ℕ
  pub within : index < length list
  pub count : number ≡ start + index
  pub fails : (d : X) → Property (slice_index_or list index d) → ⊥
  pub before : (k : ℕ) (d : X) → k < index → Property (slice_index_or list k d)
