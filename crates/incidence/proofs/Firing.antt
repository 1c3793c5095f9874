-- A firing changes y.M by the difference of the two sums of y at the transition's column, which are equal for a
-- semiflow. A product by itself is at most the sum.
use Rattle.std.proofs.Common.{◌≡◌, ap, ◌∙◌, ℕ, zero, suc, ◌+◌, ◌*◌, ◌<◌, ◌≤◌, [], ◌∷◌, arith}
use Rattle.net_values.specs.Net.{Net}
use Rattle.net_values.specs.TokenGame.{IsEnabled, after}
use Rattle.incidence.specs.Matrix.{incidence_of, gain_sum, loss_sum, positive_at, negative_at}
use Rattle.incidence.specs.Sums.{sum_below}
use Rattle.incidence.specs.Invariance.{weighted_tokens, IsPlaceSemiflow, WeightedTokensStay, SemiflowsBoundPlaces}
use Rattle.incidence.proofs.Below.{below_same, below_part}

-- where new + loss is old + gain term by term, so it is of the weighted sums
exchanged : (n : ℕ) (y new loss old gain : ℕ → ℕ) → ((i : ℕ) → i < n → new i + loss i ≡ old i + gain i) → sum_below n (λ i. y i * new i) + sum_below n (λ i. y i * loss i) ≡ sum_below n (λ i. y i * old i) + sum_below n (λ i. y i * gain i)
exchanged zero y new loss old gain each = omega arith
exchanged (suc n) y new loss old gain each =
    let rest : sum_below n (λ i. y i * new i) + sum_below n (λ i. y i * loss i) ≡ sum_below n (λ i. y i * old i) + sum_below n (λ i. y i * gain i) = exchanged n y new loss old gain (λ i under. each i (omega arith)) in
    let last : y n * (new n + loss n) ≡ y n * (old n + gain n) = ap (λ x. y n * x) (each n (omega arith)) in
    omega arith

-- a firing changes the weighted tokens by the two sums of its column
pub moved : (net : Net) (y M : ℕ → ℕ) (t : ℕ) → IsEnabled net M t →
    weighted_tokens net y (after net M t) + loss_sum (incidence_of net) t y ≡ weighted_tokens net y M + gain_sum (incidence_of net) t y
moved net y M t enabled =
    exchanged net.places y (after net M t) (λ p. negative_at (incidence_of net) p t) M (λ p. positive_at (incidence_of net) p t)
    (λ p under. let enough : net.pre p t ≤ M p = enabled p under in omega arith)

kept : (net : Net) (y M : ℕ → ℕ) (t : ℕ) → IsPlaceSemiflow net y → t < net.transitions → IsEnabled net M t → weighted_tokens net y (after net M t) ≡ weighted_tokens net y M
kept net y M t flow below enabled =
    let change = moved net y M t enabled in
    let balanced : gain_sum (incidence_of net) t y ≡ loss_sum (incidence_of net) t y = flow.balanced t below tt in
    omega (arith, change, balanced)

pub weighted_tokens_stay : (net : Net) → WeightedTokensStay net
weighted_tokens_stay net y M M' [] flow reached = below_same net.places (λ p. y p * M' p) (λ p. y p * M p) (λ p under. ap (λ x. y p * x) (reached p under))
weighted_tokens_stay net y M M' (t ∷ ts) flow reached =
    weighted_tokens_stay net y (after net M t) M' ts flow reached.2 ∙ kept net y M t flow reached.0 reached.1

pub semiflows_bound_places : (net : Net) → SemiflowsBoundPlaces net
semiflows_bound_places net y M p flow reachable under =
    let part = below_part net.places p (λ q. y q * M q) under in
    let same = weighted_tokens_stay net y net.initial M reachable.0 flow reachable.1 in
    omega (arith, part, same)
