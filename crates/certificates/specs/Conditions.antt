-- What each line of a certificate asks of a net. Lines are counted from 1; the first names the kind.
use Rattle.std.specs.Prelude.{◌≡◌, ℕ, ◌+◌, ◌-◌, ◌/◌, ◌<◌, ◌≤◌, ◌^◌, ◌==◌, ℤ, pos, Bool, false, if◌then◌else◌, List, [], ◌∷◌, length, take, All, slice_index_or}
use Rattle.std.specs.List.{list_any}
use Rattle.net_values.specs.Net.{Net}
use Rattle.net_values.specs.Vectors.{positive_part}
use Rattle.closed_sets.specs.ClosedSets.{IsSiphon, IsNonempty}
use Rattle.closed_sets.specs.Commoner.{HasMarkedTrap}
use Rattle.closed_sets.specs.Growth.{Belongs, with_place}
use Rattle.incidence.specs.Invariance.{weighted_tokens}
use Rattle.incidence.specs.Matrix.{AreNarrow, gain_sum, loss_sum, incidence_of}
use Rattle.certificates.specs.declared.certificate.BoundLines.{BoundLines}
use Rattle.certificates.specs.declared.certificate.Certificate.{Certificate}
use Rattle.certificates.specs.declared.certificate.Certificate.TheVariants.{Bounds, BadSiphon, Commoner}
use Rattle.certificates.specs.declared.certificate.Claim.{Claim}
use Rattle.certificates.specs.declared.certificate.TreeLine.{TreeLine}
use Rattle.certificates.specs.declared.certificate.TreeLine.TheVariants.{Split, Empty, Trap}

-- the vector of a flow: the coefficients at its places, and 0 elsewhere
abbrev pub vector_of : List (ℕ × ℤ) → ℕ → ℕ
vector_of [] p = 0
vector_of (term ∷ terms) p = if term.0 == p then positive_part term.1 else vector_of terms p

-- a flow: its places are in the net, at each transition what its vector gains it loses, and neither the two sums
-- nor its weighted tokens at the initial marking exceed 2^127 - 1
pub record FlowHolds (net : Net) (flow : List (ℕ × ℤ)) : Type 0 where
  pub places : All (λ term. term.0 < net.places) flow
  pub balanced : (t : ℕ) → t < net.transitions → gain_sum (incidence_of net) t (vector_of flow) ≡ loss_sum (incidence_of net) t (vector_of flow)
  pub narrow : (t : ℕ) → t < net.transitions → AreNarrow (incidence_of net) t (vector_of flow)
  pub tokens : weighted_tokens net (vector_of flow) net.initial < 2 ^ 127

-- the flow that a claim names, by its number from 1
abbrev pub flow_of : List (List (ℕ × ℤ)) → Claim → List (ℕ × ℤ)
flow_of flows claim = slice_index_or flows (claim.flow - 1) []

-- a claim: its place is in the net, its flow exists and covers the place, and the bound is no less than the
-- quotient of the flow's weighted tokens by the place's coefficient, rounded down
pub record ClaimHolds (net : Net) (flows : List (List (ℕ × ℤ))) (claim : Claim) : Type 0 where
  pub place : claim.place < net.places
  pub flow : claim.flow ≤ length flows
  pub covers : 0 < vector_of (flow_of flows claim) claim.place
  pub bound : weighted_tokens net (vector_of (flow_of flows claim)) net.initial / vector_of (flow_of flows claim) claim.place ≤ positive_part claim.bound

-- the set of the listed places
abbrev pub is_listed : List ℕ → ℕ → Bool
is_listed places p = list_any (λ place. place == p) places

-- a siphon of the net that has no marked trap in it
pub record BadSiphonHolds (net : Net) (places : List ℕ) : Type 0 where
  pub within : All (λ p. p < net.places) places
  pub siphon : IsSiphon net (is_listed places)
  pub bad : HasMarkedTrap net (is_listed places) → ⊥

-- a class of siphons: those that contain the one set and avoid the other
pub record SiphonClass : Type 0 where
  pub contains : ℕ → Bool
  pub avoids : ℕ → Bool

abbrev pub all_siphons : SiphonClass
all_siphons = record { contains = λ p. false; avoids = λ p. false }

-- its siphons without a place, and those with it
abbrev pub without : SiphonClass → ℕ → SiphonClass
without class p = record class { avoids = with_place class.avoids p }

abbrev pub containing : SiphonClass → ℕ → SiphonClass
containing class p = record class { contains = with_place class.contains p }

-- a line of a tree, for its class: a split is at a place of the net that is in neither of the two sets; no nonempty
-- siphon belongs to the class, which is so where the greatest siphon that avoids the one set is empty or lacks a
-- place of the other; or there is a marked trap in the set that its siphons contain
abbrev pub TreeLineHolds : Net → SiphonClass → TreeLine → Type 0
TreeLineHolds net class (Split p) = (p < net.places) × (class.contains p ≡ false) × (class.avoids p ≡ false)
TreeLineHolds net class Empty = (S : ℕ → Bool) → IsSiphon net S → IsNonempty net S → Belongs net class.contains class.avoids S → ⊥
TreeLineHolds net class Trap = HasMarkedTrap net class.contains

-- the classes that are left after a line: its own is parted in two, or done
abbrev pub after_line : TreeLine → SiphonClass → List SiphonClass → List SiphonClass
after_line (Split p) class classes = without class p ∷ containing class p ∷ classes
after_line Empty class classes = classes
after_line Trap class classes = classes

abbrev pub after_lines : List TreeLine → List SiphonClass → List SiphonClass
after_lines [] classes = classes
after_lines (line ∷ lines) [] = []
after_lines (line ∷ lines) (class ∷ classes) = after_lines lines (after_line line class classes)

-- the class of a line of a tree, counted from 0: the first that is left after the lines above it
abbrev pub class_at : List TreeLine → ℕ → SiphonClass
class_at lines k = slice_index_or (after_lines (take k lines) (all_siphons ∷ [])) 0 all_siphons

-- the condition of the line with a number; other lines have none
pub record BoundLineHolds (net : Net) (lines : BoundLines) (number : ℕ) : Type 0 where
  pub flow : (k : ℕ) → k < length lines.flows → number ≡ k + 2 → FlowHolds net (slice_index_or lines.flows k [])
  pub claim : (k : ℕ) → k < length lines.claims → number ≡ length lines.flows + k + 2
      → ClaimHolds net lines.flows (slice_index_or lines.claims k record { place = 0; bound = pos 0; flow = 0 })

abbrev pub LineHolds : Net → Certificate → ℕ → Type 0
LineHolds net (Bounds lines) number = BoundLineHolds net lines number
LineHolds net (BadSiphon places) number = number ≡ 2 → BadSiphonHolds net places
LineHolds net (Commoner tree) number =
    (k : ℕ) → k < length tree → number ≡ k + 2 → TreeLineHolds net (class_at tree k) (slice_index_or tree k Empty)

-- every line's condition holds
abbrev pub IsAccepted : Net → Certificate → Type 0
IsAccepted net certificate = (number : ℕ) → LineHolds net certificate number

-- the first line whose condition is false
pub record IsFalseLine (net : Net) (certificate : Certificate) (number : ℕ) : Type 0 where
  pub fails : LineHolds net certificate number → ⊥
  pub before : (earlier : ℕ) → earlier < number → LineHolds net certificate earlier
