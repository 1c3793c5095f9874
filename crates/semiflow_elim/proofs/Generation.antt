-- Semiflows with one below each semiflow generate all: subtract a member below by the least ratio; what is
-- left has a smaller support, so it is generated, and the member's coefficient is raised.
use Rattle.std.proofs.Common.{◌≡◌, refl, ap, subst, ℕ, zero, suc, ◌+◌, ◌*◌, ◌<◌, List, [], ◌∷◌, length, get_or, slice_index, All, Contains, inl, inr, arith}
use Rattle.std.proofs.lemmas.List.{get_or_default}
use Rattle.std.proofs.Math.Nat.{mul-lt-mul_of_pos_left}
use Rattle.std.specs.List.Sorted.{IsPermutation}
use Rattle.std.proofs.lemmas.List.Sorted.{Contains-permutation, IsPermutation-sym}
use Rattle.incidence.specs.Matrix.{Matrix}
use Rattle.incidence.specs.Semiflow.{IsSemiflow, all_columns}
use Rattle.semiflow_elim.specs.Bases.{IsBasis, HasBelow}
use Rattle.semiflow_elim.specs.Generated.{sum_at, IsGenerated}
use Rattle.semiflow_elim.proofs.Weighted.{none_or_some}
use Rattle.semiflow_elim.proofs.Support.{support_size, Reduced, reduced, reduced_size}
use Rattle.semiflow_elim.proofs.Transport.{rest_semiflow}
use Rattle.semiflow_elim.proofs.Listed.{semiflow_along}

-- the coefficient at a position raised
abbrev raise : ℕ → ℕ → List ℕ → List ℕ
raise zero c [] = c ∷ []
raise zero c (k ∷ ks) = (k + c) ∷ ks
raise (suc at) c [] = 0 ∷ raise at c []
raise (suc at) c (k ∷ ks) = k ∷ raise at c ks

none_sum : (rows : List (List ℕ)) (i : ℕ) → sum_at [] rows i ≡ 0
none_sum [] i = refl
none_sum (row ∷ rows) i = refl

sum_raised : (rows : List (List ℕ)) (ks : List ℕ) (at c : ℕ) (r : List ℕ) (i : ℕ) → at < length rows → get_or rows at r ≡ r → sum_at (raise at c ks) rows i ≡ sum_at ks rows i + c * slice_index r i
sum_raised [] ks at c r i under is = absurd (omega arith)
sum_raised (row ∷ rows) [] zero c r i under is =
    let entry : c * slice_index row i ≡ c * slice_index r i = ap (λ (l : List ℕ). c * slice_index l i) is in
    let none = none_sum rows i in
    omega (arith, entry, none)
sum_raised (row ∷ rows) (k ∷ ks) zero c r i under is =
    let entry : c * slice_index row i ≡ c * slice_index r i = ap (λ (l : List ℕ). c * slice_index l i) is in
    omega (arith, entry)
sum_raised (row ∷ rows) [] (suc at) c r i under is =
    let rest = sum_raised rows [] at c r i (omega arith) is in
    let none = none_sum rows i in
    omega (arith, rest, none)
sum_raised (row ∷ rows) (k ∷ ks) (suc at) c r i under is =
    let rest = sum_raised rows ks at c r i (omega arith) is in
    omega (arith, rest)

product_positive : (a b : ℕ) → 0 < a → 0 < b → 0 < a * b
product_positive a b first second = let more : a * 0 < a * b = mul-lt-mul_of_pos_left second first in omega arith

module _ (m : Matrix) (K : ℕ → Type 0) (rows : List (List ℕ)) (sound : All (λ row. IsSemiflow m K (slice_index row)) rows) (below : (y : ℕ → ℕ) → IsSemiflow m K y → HasBelow m rows y) where
  generated_within : (size : ℕ) (y : ℕ → ℕ) → IsSemiflow m K y → support_size m.rows y < size → IsGenerated m rows y
  generated_within zero y flow small = absurd (omega arith)
  generated_within (suc size) y flow small =
      let found = below y flow in
      let at = found.0 in
      let r : List ℕ = found.1 in
      let row : IsSemiflow m K (slice_index r) = subst (λ (l : List ℕ). IsSemiflow m K (slice_index l)) found.3 (sound at r found.2) in
      let d : Reduced m.rows y (slice_index r) = reduced m.rows y (slice_index r) row.nonzero.0 row.nonzero.1 row.nonzero.2 in
      elim (none_or_some m.rows d.rest) [
        | inl none ↦ record {
          multiple = slice_index r d.at;
          positive = d.positive;
          coefficients = raise at (y d.at) [];
          sum = λ i under.
              let split = d.splits i under in
              let left = none i under in
              let made = sum_raised rows [] at (y d.at) r i found.2 found.3 in
              let nothing = none_sum rows i in
              omega (arith, split, left, made, nothing);
        }
        | inr some ↦
            let less = reduced_size m.rows y (slice_index r) d found.4 in
            let deeper : IsGenerated m rows d.rest = generated_within size d.rest (rest_semiflow m K y (slice_index r) d flow row some) (omega arith) in
            record {
              multiple = deeper.multiple * slice_index r d.at;
              positive = product_positive deeper.multiple (slice_index r d.at) deeper.positive d.positive;
              coefficients = raise at (deeper.multiple * y d.at) deeper.coefficients;
              sum = λ i under.
                  let split = ap (λ (x : ℕ). deeper.multiple * x) (d.splits i under) in
                  let deep = deeper.sum i under in
                  let made = sum_raised rows deeper.coefficients at (deeper.multiple * y d.at) r i found.2 found.3 in
                  omega (arith, split, deep, made);
            }
      ]

  pub generated : (y : ℕ → ℕ) → IsSemiflow m K y → IsGenerated m rows y
  generated y flow = generated_within (suc (support_size m.rows y)) y flow (omega arith)

-- so does a basis, also when it is sorted
pub basis_generates : (m : Matrix) (K : ℕ → Type 0) (rows : List (List ℕ)) → IsBasis m K rows → (y : ℕ → ℕ) → IsSemiflow m K y → IsGenerated m rows y
basis_generates m K rows h = generated m K rows h.semiflow h.below

pub sorted_generates : (m : Matrix) (K : ℕ → Type 0) (rows list : List (List ℕ)) → ((j : ℕ) → j < m.columns → K j) → IsBasis m K rows → IsPermutation rows list → (y : ℕ → ℕ) → IsSemiflow m all_columns y → IsGenerated m list y
sorted_generates m K rows list all h moved =
    generated m all_columns list (
    λ i d under.
    let x = get_or list i d in
    let here : Contains rows x = Contains-permutation list rows x (IsPermutation-sym rows list moved) (i, under, get_or_default list i x d under) in
    let flow = subst (λ (l : List ℕ). IsSemiflow m K (slice_index l)) here.2 (h.semiflow here.0 x here.1) in
    semiflow_along m K all_columns (λ j p k. all j p) (slice_index x) flow
    ) (
    λ y flow.
    let found = h.below y (semiflow_along m all_columns K (λ j p k. tt) y flow) in
    let there = Contains-permutation rows list found.1 moved (found.0, found.2, found.3) in
    (there.0, found.1, there.1, there.2, found.4)
    )
