-- Semiflows of places count tokens that no firing changes (K. Lautenbach, "Liveness in Petri nets", GMD, 1975;
-- T. Murata, "Petri nets: properties, analysis and applications", Proceedings of the IEEE 77, 1989, section V).
use Rattle.std.specs.Prelude.{◌≡◌, ℕ, ◌*◌, ◌<◌, ◌≤◌, List}
use Rattle.net_values.specs.Net.{Net}
use Rattle.net_values.specs.TokenGame.{Reach, IsReachable}
use Rattle.incidence.specs.Matrix.{incidence_of}
use Rattle.incidence.specs.Semiflow.{IsSemiflow, all_columns}
use Rattle.incidence.specs.Sums.{sum_below}

-- y.M: the tokens of a marking, those of place p counted y(p) times each
abbrev pub weighted_tokens : Net → (ℕ → ℕ) → (ℕ → ℕ) → ℕ
weighted_tokens net y M = sum_below net.places (λ p. y p * M p)

-- a semiflow of the places of a net: one of its incidence over all transitions
abbrev pub IsPlaceSemiflow : Net → (ℕ → ℕ) → Type 0
IsPlaceSemiflow net y = IsSemiflow (incidence_of net) all_columns y

-- y.M stays the same along every firing list
abbrev pub WeightedTokensStay : Net → Type 0
WeightedTokensStay net = (y M M' : ℕ → ℕ) (ts : List ℕ) → IsPlaceSemiflow net y → Reach net M ts M' → weighted_tokens net y M' ≡ weighted_tokens net y M

-- so at every reachable marking the tokens of a place, counted y(p) times each, are at most y.M0
abbrev pub SemiflowsBoundPlaces : Net → Type 0
SemiflowsBoundPlaces net = (y M : ℕ → ℕ) (p : ℕ) → IsPlaceSemiflow net y → IsReachable net M → p < net.places → M p * y p ≤ weighted_tokens net y net.initial
