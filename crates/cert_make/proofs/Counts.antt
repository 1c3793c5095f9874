-- No more rows are named than there are places, since each place names one at most. So the numbers of flows are
-- small.
use Rattle.std.proofs.Common.{◌≡◌, refl, ap, ℕ, zero, suc, ◌+◌, ◌<◌, ◌≤◌, ◌||◌, ℤ, Bool, true, false, cond, eqb, List, [], ◌∷◌, Option, None, Some, length, length-append, inl, inr, arith}
use Rattle.std.proofs.lemmas.Bool.{cases_Bool, cases_eq, eq-eqb, ne_eqb}
use Rattle.net_values.specs.declared.limits.TheConstants.{MAX_PLACES}
use Rattle.closed_sets.specs.ClosedSets.{any_below}
use Rattle.bounds.specs.declared.place_bound.PlaceBound.{PlaceBound}
use Rattle.bounds.specs.Listed.{kept_at, told}
use Rattle.cert_make.specs.BoundCertificates.{names, is_named, flow_at, flows_below}
use Rattle.cert_make.specs.Making.{FitNumbers}

-- how many numbers below the bound pass the test
abbrev count_below : ℕ → (ℕ → Bool) → ℕ
count_below zero S = 0
count_below (suc n) S = cond (S n) 1 0 + count_below n S

one_of : (a b : Bool) → cond {A = ℕ} (a || b) 1 0 ≤ cond {A = ℕ} a 1 0 + cond {A = ℕ} b 1 0
one_of true true = omega arith
one_of true false = omega arith
one_of false true = omega arith
one_of false false = omega arith

count_or : (n : ℕ) (a b : ℕ → Bool) → count_below n (λ k. a k || b k) ≤ count_below n a + count_below n b
count_or zero a b = omega arith
count_or (suc n) a b = omega (arith, one_of (a n) (b n), count_or n a b)

count_none : (n : ℕ) (S : ℕ → Bool) → ((k : ℕ) → k < n → S k ≡ false) → count_below n S ≡ 0
count_none zero S none = refl
count_none (suc n) S none =
    let last : cond {A = ℕ} (S n) 1 0 ≡ 0 = ap (λ b. cond {A = ℕ} b 1 0) (none n (omega arith)) in
    omega (arith, last, count_none n S (λ k below. none k (omega arith)))

count_only : (n r : ℕ) → count_below n (λ k. eqb k r) ≤ 1
count_only zero r = omega arith
count_only (suc n) r =
    elim (cases_eq n r) [
      | inl same ↦
          let last : cond {A = ℕ} (eqb n r) 1 0 ≡ 1 = ap (λ b. cond {A = ℕ} b 1 0) (eq-eqb n r same) in
          omega (arith, last, count_none n (λ k. eqb k r) (λ k below. ne_eqb k r (λ equal. omega arith)))
      | inr other ↦
          let last : cond {A = ℕ} (eqb n r) 1 0 ≡ 0 = ap (λ b. cond {A = ℕ} b 1 0) (ne_eqb n r other) in
          omega (arith, last, count_only n r)
    ]

count_names : (n : ℕ) (bound : Option (ℤ × ℕ)) → count_below n (names bound) ≤ 1
count_names n None = omega (arith, count_none n (λ k. false) (λ k below. refl))
count_names n (Some bound) = count_only n bound.1

count_named : (n m : ℕ) (bounds : ℕ → Option (ℤ × ℕ)) → count_below n (λ k. any_below m (λ p. names (bounds p) k)) ≤ m
count_named n zero bounds = omega (arith, count_none n (λ k. false) (λ k below. refl))
count_named n (suc m) bounds =
    omega (arith, count_or n (names (bounds m)) (λ k. any_below m (λ p. names (bounds p) k)), count_names n (bounds m), count_named n m bounds)

count_flows : (rows : List (List ℕ)) (named : ℕ → Bool) (n : ℕ) → length (flows_below rows named n) ≡ count_below n named
count_flows rows named zero = refl
count_flows rows named (suc n) =
    elim (cases_Bool (named n)) [
      | inl last ↦ rw last (let more = length-append (flows_below rows named n) (flow_at rows n ∷ []) in omega (arith, more, count_flows rows named n))
      | inr out ↦ rw out (omega (arith, count_flows rows named n))
    ]

pub numbers_fit : (rows : List (List ℕ)) (bounds : List (Option PlaceBound)) → length bounds ≤ MAX_PLACES → FitNumbers rows (is_named bounds)
numbers_fit rows bounds limit k =
    let count = count_flows rows (is_named bounds) k in
    let few = count_named k (length bounds) (λ p. told (kept_at bounds p)) in
    omega (arith, count, few, limit)
