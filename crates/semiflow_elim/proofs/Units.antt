-- The unit rows are a basis of the semiflows over no column: each nonzero vector has the unit row of one of
-- its positive positions below it.
use Rattle.std.proofs.Common.{◌≡◌, sym, ap, ◌∙◌, subst, ℕ, ◌<◌, List, [], length, get_or, set, replicate, slice_index, ◌*◌, inl, inr, arith}
use Rattle.std.specs.Int.{◌∣◌}
use Rattle.std.proofs.lemmas.Bool.{cases_eq, cases_lt}
use Rattle.std.proofs.lemmas.List.{get_or-set_same, get_or-set_other, get_or-replicate, get_or_past, get_or_default, length-set, length-replicate}
use Rattle.std.proofs.Math.Nat.{eq-one_of_dvd-one}
use Rattle.incidence.specs.Matrix.{Matrix, gain_sum, loss_sum, positive_at, negative_at}
use Rattle.incidence.proofs.Below.{below_zero}
use Rattle.semiflow_elim.specs.Bases.{IsBasis, AreUnits}

zero_read : (n i : ℕ) → slice_index (replicate n 0) i ≡ 0
zero_read n i =
    elim (cases_lt i n) [
      | inl under ↦ get_or-replicate n i 0 0 under
      | inr past ↦ get_or_past (replicate n 0) i 0 (omega (arith, length-replicate {A = ℕ} n 0))
    ]

unit_here : (n k : ℕ) → k < n → slice_index (set (replicate n 0) k 1) k ≡ 1
unit_here n k within = let inside : k < length (replicate n 0) = omega (arith, length-replicate {A = ℕ} n 0) in get_or-set_same (replicate n 0) k 1 0 inside

unit_elsewhere : (n k i : ℕ) → (i ≡ k → ⊥) → slice_index (set (replicate n 0) k 1) i ≡ 0
unit_elsewhere n k i other =
    get_or-set_other (replicate n 0) k i 1 0 other ∙ zero_read n i

unit_only : (n k i : ℕ) → 0 < slice_index (set (replicate n 0) k 1) i → i ≡ k
unit_only n k i some =
    elim (cases_eq i k) [
      | inl same ↦ same
      | inr other ↦ let none = unit_elsewhere n k i other in absurd (omega arith)
    ]

-- the unit row of another position is 0 here
units_apart : (n i j : ℕ) → (i ≡ j → ⊥) → i < n → 0 < slice_index (set (replicate n 0) j 1) i → ⊥
units_apart n i j other within some = other (unit_only n j i some)

pub units_basis : (m : Matrix) (K : ℕ → Type 0) (rows : List (List ℕ)) → ((j : ℕ) → j < m.columns → K j → ⊥) → AreUnits m.rows rows m.rows → IsBasis m K rows
units_basis m K rows none h = record {
  size = λ k d within. let count = h.count in ap length (h.units k d (omega arith)) ∙ length-set (replicate m.rows 0) k 1 ∙ length-replicate {A = ℕ} m.rows 0;
  semiflow = λ k d within.
      let count = h.count in
      record {
        nonzero = (k, omega arith, let one = ap (λ (row : List ℕ). slice_index row k) (h.units k d (omega arith)) ∙ unit_here m.rows k (omega arith) in omega arith);
        balanced = λ j p k. absurd (none j p k);
      };
  coprime = λ k d within.
      let count = h.count in
      λ e divides. eq-one_of_dvd-one (subst (λ (z : ℕ). e ∣ z) (ap (λ (row : List ℕ). slice_index row k) (h.units k d (omega arith)) ∙ unit_here m.rows k (omega arith)) (divides k (omega arith)));
  apart = λ i j d before within.
      let count = h.count in
      let i_is = h.units i d (omega arith) in
      let j_is = h.units j d (omega arith) in
      record {
        forth = λ inside. units_apart m.rows i j (omega arith) (omega arith) (subst (λ (row : List ℕ). 0 < slice_index row i) j_is (inside i (subst (λ (row : List ℕ). 0 < slice_index row i) (sym i_is) (let one = unit_here m.rows i (omega arith) in omega arith))));
        back = λ inside. units_apart m.rows j i (omega arith) (omega arith) (subst (λ (row : List ℕ). 0 < slice_index row j) i_is (inside j (subst (λ (row : List ℕ). 0 < slice_index row j) (sym j_is) (let one = unit_here m.rows j (omega arith) in omega arith))));
      };
  below = λ y flow.
      let count = h.count in
      let some = flow.nonzero in
      let is = h.units some.0 [] (omega (arith, some.1)) in (
        some.0,
        get_or rows some.0 [],
        omega (arith, some.1),
        get_or_default rows some.0 _ [] (omega (arith, some.1)),
        λ i under positive. subst (λ (j : ℕ). 0 < y j) (sym (unit_only m.rows some.0 i (subst (λ (row : List ℕ). 0 < slice_index row i) is positive))) some.2,
      );
}

-- the unit row has no sums at a column where the matrix has 0 at its position
none_left : (amount : ℕ → ℕ) (n k i : ℕ) → amount k ≡ 0 → slice_index (set (replicate n 0) k 1) i * amount i ≡ 0
none_left amount n k i none =
    elim (cases_eq i k) [
      | inl same ↦
          let zero : amount i ≡ 0 = ap amount same ∙ none in
          ap (λ (z : ℕ). slice_index (set (replicate n 0) k 1) i * z) zero ∙ omega arith
      | inr other ↦ ap (λ (z : ℕ). z * amount i) (unit_elsewhere n k i other) ∙ omega arith
    ]

pub unit_gains : (m : Matrix) (k j : ℕ) → m.gain k j ≡ 0 → gain_sum m j (slice_index (set (replicate m.rows 0) k 1)) ≡ 0
unit_gains m k j none =
    let zero : positive_at m k j ≡ 0 = omega arith in
    below_zero m.rows (λ i. slice_index (set (replicate m.rows 0) k 1) i * positive_at m i j) (λ i under. none_left (λ p. positive_at m p j) m.rows k i zero)

pub unit_losses : (m : Matrix) (k j : ℕ) → m.loss k j ≡ 0 → loss_sum m j (slice_index (set (replicate m.rows 0) k 1)) ≡ 0
unit_losses m k j none =
    let zero : negative_at m k j ≡ 0 = omega arith in
    below_zero m.rows (λ i. slice_index (set (replicate m.rows 0) k 1) i * negative_at m i j) (λ i under. none_left (λ p. negative_at m p j) m.rows k i zero)
