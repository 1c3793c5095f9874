-- Where both sums of a minimal semiflow are narrow at each transition, so is each entry: a place with an arc that
-- counts occurs in a sum, and a place without one is a semiflow by itself, so that it is the only one, with the entry 1.
use Rattle.std.proofs.Common.{◌≡◌, ◌≢◌, ℕ, zero, suc, ◌+◌, ◌*◌, ◌^◌, ◌<◌, ◌≤◌, List, [], length, refl, sym, ap, subst, ◌∙◌, arith, inl, inr}
use Rattle.std.specs.Prelude.{Bool, ◌==◌, true, false, if◌then◌else◌, slice_index, slice_index_or}
use Rattle.std.specs.Int.{◌∣◌}
use Rattle.std.specs.Cmp.Lexicographic.{slice_cmp}
use Rattle.std.specs.Ordering.{nat_cmp}
use Rattle.std.proofs.lemmas.Bool.{cases_eq, cases_lt}
use Rattle.std.proofs.lemmas.Bool.Decides.{nat_tests}
use Rattle.std.proofs.lemmas.List.{get_or_default}
use Rattle.std.proofs.lemmas.List.Elements.{Contains-get_or}
use Rattle.std.proofs.lemmas.Nat.Gcd.{dvd_refl, dvd-zero}
use Rattle.net_values.specs.declared.limits.TheConstants.{MAX_PLACES}
use Rattle.net_values.specs.Net.{Net}
use Rattle.net_values.specs.TheList.{IsTheList}
use Rattle.cert_make.specs.BoundCertificates.{AreNarrowFlows}
use Rattle.cert_make.specs.Making.{AreVectors}
use Rattle.incidence.specs.Matrix.{Matrix, AreNarrow, positive_at, negative_at, incidence_of}
use Rattle.incidence.specs.Semiflow.{all_columns, IsSemiflow, IsMinimal}
use Rattle.incidence.proofs.Below.{below_zero, below_part, zero_product}
use Rattle.semiflow_elim.specs.Bases.{IsMinimalRow}
use Rattle.struct_core.proofs.SomeClass.{some_below, positive}

scaled : (a b : ℕ) → 0 < b → a ≤ a * b
scaled a zero some = absurd (omega (arith, some))
scaled a (suc b) some = omega arith

-- a single place
abbrev unit : ℕ → ℕ → ℕ
unit p i = if i == p then 1 else 0

unit_here : (p : ℕ) → unit p p ≡ 1
unit_here p = (let e : (p == p) ≡ true = grind (arith, nat_tests) in rw e refl)

unit_other : (p i : ℕ) → i ≢ p → unit p i ≡ 0
unit_other p i other = (let e : (i == p) ≡ false = grind (arith, nat_tests) in rw e refl)

unit_positive : (p i : ℕ) → 0 < unit p i → i ≡ p
unit_positive p i some = elim (cases_eq i p) [
  | inl same ↦ same
  | inr other ↦ absurd (omega (arith, some, unit_other p i other))
]

module _ (m : Matrix) (y : ℕ → ℕ) (p : ℕ) (under : p < m.rows) (minimal : IsMinimal m all_columns y) where
  -- a sum that the entry is part of
  in_sum : (weight : ℕ → ℕ) (sum : ℕ) → 0 < weight p → sum < 2 ^ 127 → y p * weight p ≤ sum → y p < 2 ^ 127
  in_sum weight sum some narrow part = (let low = scaled (y p) (weight p) some in omega (arith, low, narrow, part))

  with_arc : (t : ℕ) → 0 < positive_at m p t + negative_at m p t → AreNarrow m t y → y p < 2 ^ 127
  with_arc t some narrow = elim (cases_lt 0 (positive_at m p t)) [
    | inl gain ↦ (let part = below_part m.rows p (λ i. y i * positive_at m i t) under in
        in_sum (λ i. positive_at m i t) _ gain narrow.gain (omega (arith, part)))
    | inr none ↦ (let part = below_part m.rows p (λ i. y i * negative_at m i t) under in
        in_sum (λ i. negative_at m i t) _ (omega (arith, some, none)) narrow.loss (omega (arith, part)))
  ]

  module _ (none : (t : ℕ) → t < m.columns → 0 < positive_at m p t + negative_at m p t → ⊥) where
    no_term : (weight : ℕ → ℕ) (i : ℕ) → weight p ≡ 0 → unit p i * weight i ≡ 0
    no_term weight i same = elim (cases_eq i p) [
      | inl here ↦ zero_product (unit p i) (weight i) (ap weight here ∙ same)
      | inr other ↦ (let none : unit p i ≡ 0 = unit_other p i other in rw none (let zero_is : 0 * weight i ≡ 0 = omega arith in zero_is))
    ]

    no_gain : (t : ℕ) → t < m.columns → positive_at m p t ≡ 0
    no_gain t inside = elim (cases_lt 0 (positive_at m p t)) [
      | inl gain ↦ absurd (none t inside (omega (arith, gain)))
      | inr zero_is ↦ omega (arith, zero_is)
    ]

    no_loss : (t : ℕ) → t < m.columns → negative_at m p t ≡ 0
    no_loss t inside = elim (cases_lt 0 (negative_at m p t)) [
      | inl loss ↦ absurd (none t inside (omega (arith, loss)))
      | inr zero_is ↦ omega (arith, zero_is)
    ]

    single : IsSemiflow m all_columns (unit p)
    single = record {
      nonzero = (p, under, (let one = unit_here p in omega (arith, one)));
      balanced = λ t inside all.
          below_zero m.rows (λ i. unit p i * positive_at m i t) (λ i low. no_term (λ k. positive_at m k t) i (no_gain t inside))
          ∙ sym (below_zero m.rows (λ i. unit p i * negative_at m i t) (λ i low. no_term (λ k. negative_at m k t) i (no_loss t inside)));
    }

    only : 0 < y p → (i : ℕ) → i < m.rows → i ≢ p → y i ≡ 0
    only some i inside other =
        let inner = minimal.least (unit p) single (λ k low positive. subst (λ (q : ℕ). 0 < y q) (sym (unit_positive p k positive)) some) in
        elim (cases_lt 0 (y i)) [
          | inl more ↦ absurd (other (unit_positive p i (inner i inside more)))
          | inr zero_is ↦ omega (arith, zero_is)
        ]

    divides : 0 < y p → (i : ℕ) → i < m.rows → y p ∣ y i
    divides some i inside = elim (cases_eq i p) [
      | inl same ↦ subst (λ (q : ℕ). y p ∣ y q) (sym same) (dvd_refl (y p))
      | inr other ↦ subst (λ (n : ℕ). y p ∣ n) (sym (only some i inside other)) (dvd-zero (y p))
    ]

    without_arc : y p < 2 ^ 127
    without_arc = elim (cases_lt 0 (y p)) [
      | inl some ↦ (let one : y p ≡ 1 = minimal.coprime (y p) (divides some) in omega (arith, one))
      | inr zero_is ↦ omega (arith, zero_is)
    ]

  narrow_entry : ((t : ℕ) → t < m.columns → AreNarrow m t y) → y p < 2 ^ 127
  narrow_entry narrow = elim (some_below (λ t. 0 < positive_at m p t + negative_at m p t) (λ t. positive (positive_at m p t + negative_at m p t)) m.columns) [
    | inl found ↦ with_arc found.0 found.2 (narrow found.0 found.1)
    | inr none ↦ without_arc none
  ]

pub narrow_vectors : (net : Net) (list : List (List ℕ)) (named : ℕ → Bool) → net.places ≤ MAX_PLACES
    → IsTheList (slice_cmp nat_cmp) (IsMinimalRow (incidence_of net) all_columns) list → AreNarrowFlows net list named (length list)
    → AreVectors list named (length list)
narrow_vectors net list named limit is narrow = λ k under used.
    let row : List ℕ = slice_index_or list k [] in
    let minimal : IsMinimalRow (incidence_of net) all_columns row = (is.members row).0 (Contains-get_or list k [] under) in record {
      short = (let size = minimal.size in omega (arith, size, limit));
      narrow = λ i d inside.
          subst (λ (entry : ℕ). entry < 2 ^ 127) (get_or_default row i 0 d inside)
          (narrow_entry (incidence_of net) (slice_index row) i (let size = minimal.size in omega (arith, size, inside)) minimal.minimal (narrow k under used));
    }
