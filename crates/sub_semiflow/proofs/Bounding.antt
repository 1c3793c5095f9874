-- No firing raises the tokens weighted by a sub-semiflow, so a place has at most what they are at the start, divided by its
-- number; whatever the start is.
use Rattle.std.proofs.Common.{ap, ℕ, ◌*◌, ◌≤◌, List, [], ◌∷◌, arith}
use Rattle.net_values.specs.Net.{Net}
use Rattle.net_values.specs.TokenGame.{after, Reach}
use Rattle.incidence.specs.Invariance.{weighted_tokens}
use Rattle.incidence.proofs.Below.{below_same, below_part}
use Rattle.incidence.proofs.Firing.{moved}
use Rattle.sub_semiflow.specs.SubSemiflows.{IsSubSemiflow, started_at, SubSemiflowsBoundPlaces}

never_rises : (net : Net) (y M M' : ℕ → ℕ) (ts : List ℕ) → IsSubSemiflow net y → Reach net M ts M' → weighted_tokens net y M' ≤ weighted_tokens net y M
never_rises net y M M' [] sub reached =
    let same = below_same net.places (λ p. y p * M' p) (λ p. y p * M p) (λ p under. ap (λ x. y p * x) (reached p under)) in omega (arith, same)
never_rises net y M M' (t ∷ ts) sub reached =
    let rest = never_rises net y (after net M t) M' ts sub reached.2 in
    let change = moved net y M t reached.1 in
    let falls = sub.falls t reached.0 in
    omega (arith, rest, change, falls)

pub sub_semiflows_bound_places : (net : Net) → SubSemiflowsBoundPlaces net
sub_semiflows_bound_places net y initial M p sub reachable under =
    let part = below_part net.places p (λ q. y q * M q) under in
    let falls = never_rises (started_at net initial) y initial M reachable.0 record { nonzero = sub.nonzero; falls = sub.falls } reachable.1 in
    omega (arith, part, falls)
