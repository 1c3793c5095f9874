-- A sum of positive multiples of two rows, entry by entry: at a position in the union of the two supports the entry is
-- positive, and between two such positions it is 0.
use Rattle.std.proofs.Common.{◌≡◌, sym, ap, ◌∙◌, subst, ℕ, ◌+◌, ◌*◌, ◌^◌, ◌<◌, List, Bool, false, length, replicate, slice_index, slice_set, length-set, inl, inr, arith}
use Rattle.std.proofs.lemmas.Bool.{cases_lt, cases_eq, lt-ltb, ltb-true, true≢false}
use Rattle.std.proofs.lemmas.List.{get_or-replicate, get_or-set_same, get_or-set_other, get_or_past, length-replicate}
use Rattle.net_values.specs.PlaceSets.{has, HasNoneFrom, IsFirstFrom}
use Rattle.net_values.specs.Vectors.{AreZerosBetween}
use Rattle.semiflow_elim.specs.Arithmetic.{IsScaledSum, IsSummed, IsUnionOf}
use Rattle.semiflow_elim.proofs.UnitedSupports.{outside_zero, sum_positive}

zero_at : (n i : ℕ) → slice_index (replicate n 0) i ≡ 0
zero_at n i =
    elim (cases_lt i n) [
      | inl under ↦ get_or-replicate n i 0 0 under
      | inr past ↦ get_or_past (replicate n 0) i 0 (omega (arith, length-replicate {A = ℕ} n 0))
    ]

module _ (x y : ℕ) (r s : List ℕ) where
  pub none_summed : (sum : List ℕ) → sum ≡ replicate (length r) 0 → IsSummed x r y s 0 sum
  none_summed sum is = subst (IsSummed x r y s 0) (sym is) record {
    size = length-replicate {A = ℕ} (length r) 0;
    before = λ i under. absurd (omega arith);
    after = λ i late. zero_at (length r) i;
    narrow = λ i. let zero = zero_at (length r) i in omega arith;
  }

  module _ (either : List Bool) (union : IsUnionOf r s either) where
    -- the rows are 0 where the union has no position
    pub apart_zero : (i : ℕ) → has either i ≡ false → (slice_index r i ≡ 0) × (slice_index s i ≡ 0)
    apart_zero i out =
        elim (cases_lt 0 (slice_index r i + slice_index s i)) [
          | inl some ↦ absurd (true≢false (sym (union.members i ∙ lt-ltb 0 (slice_index r i + slice_index s i) some) ∙ out))
          | inr none ↦ (omega arith, omega arith)
        ]

    module _ (from p : ℕ) (first : IsFirstFrom either from p) where
      pub first_ahead : (entries : List ℕ) (start : ℕ) → entries ≡ r → start ≡ from → AreZerosBetween entries start p
      first_ahead entries start same at =
          subst (λ (es : List ℕ). AreZerosBetween es start p) (sym same) (subst (λ (n : ℕ). AreZerosBetween r n p) (sym at) record {
            order = first.not_before;
            zeros = λ q late under. (apart_zero q (first.first q late under)).0;
          })

      pub second_ahead : (entries : List ℕ) (start : ℕ) → entries ≡ s → start ≡ from → AreZerosBetween entries start p
      second_ahead entries start same at =
          subst (λ (es : List ℕ). AreZerosBetween es start p) (sym same) (subst (λ (n : ℕ). AreZerosBetween s n p) (sym at) record {
            order = first.not_before;
            zeros = λ q late under. (apart_zero q (first.first q late under)).1;
          })

      pub entry_some : (entry : ℕ) → 0 < x → 0 < y → entry ≡ x * slice_index r p + y * slice_index s p → 0 < entry
      entry_some entry one two is =
          let some : 0 < slice_index r p + slice_index s p = ltb-true 0 (slice_index r p + slice_index s p) (sym (union.members p) ∙ first.member) in
          let sum = sum_positive x (slice_index r p) y (slice_index s p) one two some in
          omega arith

      pub summed_more : (sum new : List ℕ) (entry : ℕ) → p < length r → entry < 2 ^ 127 → entry ≡ x * slice_index r p + y * slice_index s p → new ≡ slice_set sum p entry → IsSummed x r y s from sum → IsSummed x r y s (p + 1) new
      summed_more sum new entry under narrow is set h =
          let inside : p < length sum = omega (arith, h.size) in
          let here : slice_index (slice_set sum p entry) p ≡ entry = get_or-set_same sum p entry 0 inside in
          let elsewhere : (i : ℕ) → (i ≡ p → ⊥) → slice_index (slice_set sum p entry) i ≡ slice_index sum i = λ i other. get_or-set_other sum p i entry 0 other in
          subst (IsSummed x r y s (p + 1)) (sym set) record {
            size = length-set sum p entry ∙ h.size;
            before = λ i below. elim (cases_eq i p) [
              | inl same ↦
                  ap (slice_index (slice_set sum p entry)) same ∙ here ∙ is ∙ sym (ap (λ (k : ℕ). x * slice_index r k + y * slice_index s k) same)
              | inr other ↦ elsewhere i other ∙ elim (cases_lt i from) [
                | inl early ↦ h.before i early
                | inr late ↦ h.after i late ∙ sym (outside_zero x y r s either i union (first.first i late (omega arith)))
              ]
            ];
            after = λ i late. elsewhere i (λ same. omega (arith, same)) ∙ h.after i (let order = first.not_before in omega arith);
            narrow = λ i. elim (cases_eq i p) [
              | inl same ↦ let at : slice_index (slice_set sum p entry) i ≡ entry = ap (slice_index (slice_set sum p entry)) same ∙ here in omega arith
              | inr other ↦ let at = elsewhere i other in let old = h.narrow i in omega arith
            ];
          }

    pub all_summed : (from : ℕ) (sum : List ℕ) → HasNoneFrom either from → IsSummed x r y s from sum → IsScaledSum x r y s (length r) sum
    all_summed from sum none h = record {
      size = h.size;
      entries = λ i under. elim (cases_lt i from) [
        | inl early ↦ h.before i early
        | inr late ↦ h.after i late ∙ sym (outside_zero x y r s either i union (none i late))
      ];
      narrow = λ i under. h.narrow i;
    }
