-- Every semiflow is a sum of the rows, up to a positive multiple. So what holds of every row as a bound on a
-- weighted sum holds of every semiflow, and a place that no row covers no semiflow covers.
use Rattle.std.proofs.Common.{◌≡◌, sym, ap, ℕ, suc, ◌+◌, ◌*◌, ◌<◌, ◌≤◌, List, [], ◌∷◌, length, arith}
use Rattle.std.proofs.Math.Nat.{mul-le-mul_left, le_of_mul-le-mul_left, mul-lt-mul_of_pos_left}
use Rattle.net_values.specs.Net.{Net}
use Rattle.incidence.specs.Matrix.{incidence_of}
use Rattle.incidence.specs.Invariance.{weighted_tokens, IsPlaceSemiflow}
use Rattle.semiflow_elim.specs.Generated.{sum_at, IsGenerated}
use Rattle.semiflow_elim.proofs.Weighted.{weighted, weighted_join, weighted_scale}
use Rattle.bounds.specs.Listed.{row_at}

sum_bounded : (n b p : ℕ) (M : ℕ → ℕ) (rows : List (List ℕ)) (ks : List ℕ) → ((k : ℕ) → k < length rows → b * row_at rows k p ≤ weighted n M (row_at rows k)) → b * sum_at ks rows p ≤ weighted n M (sum_at ks rows)
sum_bounded n b p M [] ks each = omega arith
sum_bounded n b p M (row ∷ rows) [] each = omega arith
sum_bounded n b p M (row ∷ rows) (k ∷ ks) each =
    let rest = sum_bounded n b p M rows ks (λ j under. each (suc j) (omega arith)) in
    let whole : weighted n M (sum_at (k ∷ ks) (row ∷ rows)) ≡ k * weighted n M (row_at (row ∷ rows) 0) + 1 * weighted n M (sum_at ks rows) = weighted_join n M (sum_at (k ∷ ks) (row ∷ rows)) (row_at (row ∷ rows) 0) (sum_at ks rows) k 1 (λ i under. omega arith) in
    let here : k * (b * row_at (row ∷ rows) 0 p) ≤ k * weighted n M (row_at (row ∷ rows) 0) = mul-le-mul_left k (each 0 (omega arith)) in
    omega (arith, rest, whole, here)

sum_none : (p : ℕ) (rows : List (List ℕ)) (ks : List ℕ) → ((k : ℕ) → k < length rows → row_at rows k p ≡ 0) → sum_at ks rows p ≡ 0
sum_none p [] ks each = omega arith
sum_none p (row ∷ rows) [] each = omega arith
sum_none p (row ∷ rows) (k ∷ ks) each =
    let rest = sum_none p rows ks (λ j under. each (suc j) (omega arith)) in
    let here : k * row_at (row ∷ rows) 0 p ≡ k * 0 = ap (λ x. k * x) (each 0 (omega arith)) in
    omega (arith, rest, here)

-- the rows generate every semiflow of places
abbrev pub Generate : Net → List (List ℕ) → Type 0
Generate net rows = (y : ℕ → ℕ) → IsPlaceSemiflow net y → IsGenerated (incidence_of net) rows y

pub bound_all : (net : Net) (rows : List (List ℕ)) → Generate net rows → (b p : ℕ) → p < net.places → ((k : ℕ) → k < length rows → b * row_at rows k p ≤ weighted_tokens net (row_at rows k) net.initial) → (y : ℕ → ℕ) → IsPlaceSemiflow net y → b * y p ≤ weighted_tokens net y net.initial
bound_all net rows generate b p under each y flow =
    let g = generate y flow in
    let sum = sum_bounded net.places b p net.initial rows g.coefficients each in
    let whole = weighted_scale net.places net.initial (sum_at g.coefficients rows) y g.multiple (λ i below. sym (g.sum i below)) in
    let here : b * (g.multiple * y p) ≡ b * sum_at g.coefficients rows p = ap (λ x. b * x) (g.sum p under) in
    let multiple : g.multiple * (b * y p) ≤ g.multiple * weighted_tokens net y net.initial = omega (arith, sum, whole, here) in
    le_of_mul-le-mul_left multiple g.positive

pub none_covers : (net : Net) (rows : List (List ℕ)) → Generate net rows → (p : ℕ) → p < net.places → ((k : ℕ) → k < length rows → row_at rows k p ≡ 0) → (y : ℕ → ℕ) → IsPlaceSemiflow net y → 0 < y p → ⊥
none_covers net rows generate p under each y flow covers =
    let g = generate y flow in
    let none = sum_none p rows g.coefficients each in
    let here = g.sum p under in
    let some : g.multiple * 0 < g.multiple * y p = mul-lt-mul_of_pos_left covers g.positive in
    omega (arith, none, here, some)
