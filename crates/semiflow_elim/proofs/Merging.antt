-- Merging the sums of two rows, one column after another.
use Rattle.std.proofs.Common.{◌≡◌, ◌⊎◌, refl, sym, ap, ◌∙◌, subst, ℕ, zero, suc, ◌+◌, ◌-◌, ◌*◌, ◌/◌, ◌^◌, ◌<◌, ◌≤◌, ◌==◌, min, Bool, true, false, Some, List, [], ◌∷◌, ◌++◌, length, get_or, take, drop, slice_index, inl, inr, arith}
use Rattle.std.proofs.lemmas.Bool.{cases_eq, cases_lt, eqb-true, eqb-false}
use Rattle.std.proofs.lemmas.List.{get_or_default, take_all}
use Rattle.std.proofs.Math.Nat.{mul-div_cancel_left, div-le_self}
use Rattle.incidence.specs.Matrix.{Matrix, gain_sum, loss_sum}
use Rattle.semiflow_elim.specs.Carried.{sums_in, AreCarried, AreListed, AreSumsAt}
use Rattle.semiflow_elim.specs.Merged.{AreJointAt, AreJoint, AreFrom, BeginsAt, IsLowest, AreTaken, AreMerged}
use Rattle.semiflow_elim.specs.declared.carried.ColumnSums.{ColumnSums}
use Rattle.semiflow_elim.specs.declared.merged.Multiples.{Multiples}
use Rattle.semiflow_elim.proofs.CandidateLemmas.{product_positive}
use Rattle.semiflow_elim.proofs.CarriedSums.{no_sums, IsFree, sums_here, sums_past, sums_free, carried_gap, carried_inside, carried_more, carried_start}

abbrev zero_sums : ColumnSums
zero_sums = record { column = 0; gain = 0; loss = 0 }

pub from_none : (j width : ℕ) (sums : List ColumnSums) → length sums ≡ 0 → AreFrom j width sums
from_none j width sums none = record {
  ascending = λ i k d before under. absurd (omega arith);
  above = λ k d under. absurd (omega arith);
  within = λ k d under. absurd (omega arith);
}

pub from_lower : (n low width : ℕ) (sums : List ColumnSums) → low ≤ n → AreFrom n width sums → AreFrom low width sums
from_lower n low width sums less h = record {
  ascending = h.ascending;
  above = λ k d under. let above = h.above k d under in omega arith;
  within = h.within;
}

-- sums are from their first column on
pub from_first : (n width : ℕ) (sums : List ColumnSums) → AreFrom n width sums → 0 < length sums → AreFrom (get_or sums 0 zero_sums).column width sums
from_first n width sums h some = record {
  ascending = h.ascending;
  above = λ k d under.
      elim (cases_eq k 0) [
        | inl first ↦
            let same : (get_or sums k d).column ≡ (get_or sums 0 zero_sums).column = ap (λ (i : ℕ). (get_or sums i d).column) first ∙ ap (λ (o : ColumnSums). o.column) (get_or_default sums 0 d zero_sums some) in
            omega arith
        | inr later ↦
            let less = h.ascending 0 k d (omega arith) under in
            let same : (get_or sums 0 d).column ≡ (get_or sums 0 zero_sums).column = ap (λ (o : ColumnSums). o.column) (get_or_default sums 0 d zero_sums some) in
            omega arith
      ];
  within = h.within;
}

-- the lowest column of two lists is that of the first sums of one of them
pub lowest_second : (n width : ℕ) (first second : List ColumnSums) → length first ≡ 0 → 0 < length second → AreFrom n width second → IsLowest width first second (Some (get_or second 0 zero_sums).column)
lowest_second n width first second none some h =
    (from_none (get_or second 0 zero_sums).column width first none, from_first n width second h some, inr record { some = some; column = refl })

pub lowest_first : (n width : ℕ) (first second : List ColumnSums) → 0 < length first → length second ≡ 0 → AreFrom n width first → IsLowest width first second (Some (get_or first 0 zero_sums).column)
lowest_first n width first second some none h =
    (from_first n width first h some, from_none (get_or first 0 zero_sums).column width second none, inl record { some = some; column = refl })

pub lowest_both : (n width : ℕ) (first second : List ColumnSums) (j : ℕ) → 0 < length first → 0 < length second → j ≡ min (get_or first 0 zero_sums).column (get_or second 0 zero_sums).column → AreFrom n width first → AreFrom n width second → IsLowest width first second (Some j)
lowest_both n width first second j some more least one two =
    elim (cases_lt (get_or first 0 zero_sums).column (get_or second 0 zero_sums).column) [
      | inl below ↦ (
        from_lower (get_or first 0 zero_sums).column j width first (omega arith) (from_first n width first one some),
        from_lower (get_or second 0 zero_sums).column j width second (omega arith) (from_first n width second two more),
        inl record { some = some; column = omega arith },
      )
      | inr above ↦ (
        from_lower (get_or first 0 zero_sums).column j width first (omega arith) (from_first n width first one some),
        from_lower (get_or second 0 zero_sums).column j width second (omega arith) (from_first n width second two more),
        inr record { some = more; column = omega arith },
      )
    ]

-- no sums are of a column below
pub free_under : (n width : ℕ) (sums : List ColumnSums) (j : ℕ) → AreFrom n width sums → j < n → IsFree sums j
free_under n width sums j h less k under same = let above = h.above k (no_sums j) under in omega arith

-- the first sums are taken off where they are of the column
pub taken_first : (width : ℕ) (sums : List ColumnSums) (j : ℕ) → 0 < length sums → (get_or sums 0 zero_sums).column ≡ j → AreFrom j width sums → AreTaken width sums j (get_or sums 0 zero_sums) (take (length sums - 1) (drop 1 sums))
taken_first width [] j some column h = absurd (omega arith)
taken_first width (own ∷ rest) j some column h = subst (AreTaken width (own ∷ rest) j own) (sym (take_all (length (own ∷ rest) - 1) rest (omega arith))) record {
  sums_are = sym (sums_here own rest j column);
  from = record {
    ascending = λ i k d before under. h.ascending (suc i) (suc k) d (omega arith) (omega arith);
    above = λ k d under. let less = h.ascending 0 (suc k) d (omega arith) (omega arith) in omega arith;
    within = λ k d under. h.within (suc k) d (omega arith);
  };
  same = λ i above. sym (sums_past own rest i (λ same. omega arith));
  shorter = omega arith;
  begins = λ begins. omega arith;
}

-- and nothing is taken off where they aren't
pub taken_none : (width : ℕ) (sums : List ColumnSums) (j : ℕ) → (0 < length sums → (get_or sums 0 zero_sums).column ≡ j → ⊥) → AreFrom j width sums → AreTaken width sums j (no_sums j) sums
taken_none width sums j other h = record {
  sums_are = sym (sums_free sums j (λ k under same.
      let first = h.above 0 zero_sums (omega arith) in
      elim (cases_eq k 0) [
        | inl at ↦ other (omega arith) (ap (λ (o : ColumnSums). o.column) (get_or_default sums 0 zero_sums (no_sums j) (omega arith)) ∙ ap (λ (i : ℕ). (get_or sums i (no_sums j)).column) (sym at) ∙ same)
        | inr later ↦
            let less = h.ascending 0 k (no_sums j) (omega arith) under in
            let low = h.above 0 (no_sums j) (omega arith) in
            omega arith
      ]));
  from = record {
    ascending = h.ascending;
    above = λ k d under.
        let above = h.above k d under in
        elim (cases_eq (get_or sums k d).column j) [
          | inr apart ↦ omega arith
          | inl same ↦ elim (cases_eq k 0) [
            | inl at ↦ absurd (other (omega arith) (ap (λ (o : ColumnSums). o.column) (get_or_default sums 0 zero_sums d (omega arith)) ∙ ap (λ (i : ℕ). (get_or sums i d).column) (sym at) ∙ same))
            | inr later ↦
                let less = h.ascending 0 k d (omega arith) under in
                let low = h.above 0 d (omega arith) in
                absurd (omega arith)
          ]
        ];
    within = h.within;
  };
  same = λ i above. refl;
  shorter = omega arith;
  begins = λ begins. absurd (other begins.some begins.column);
}

none_of_both : (d s x y : ℕ) → 0 < d → d * s ≡ x * 0 + y * 0 → s ≡ 0
none_of_both d zero x y positive same = refl
none_of_both d (suc s) x y positive same = let product = product_positive d (suc s) positive (omega arith) in absurd (omega arith)

-- the quotient is the sum
quotient_is : (d s p q : ℕ) → 0 < d → d * s ≡ p → q ≡ p / d → q ≡ s
quotient_is d s p q positive same is = is ∙ ap (λ (n : ℕ). n / d) (sym same) ∙ mul-div_cancel_left s positive

pub joint_sums : (m : Matrix) (j : ℕ) (y : ℕ → ℕ) (by : Multiples) (first second : ColumnSums) (gain loss : ℕ) → 0 < by.divisor → AreJointAt m j y by first second → gain ≡ by.first * first.gain + by.second * second.gain → loss ≡ by.first * first.loss + by.second * second.loss → gain < 2 ^ 127 → loss < 2 ^ 127 → AreSumsAt m j y record { column = j; gain = gain / by.divisor; loss = loss / by.divisor }
joint_sums m j y by first second gain loss positive joint gain_is loss_is gain_narrow loss_narrow =
    let gain_sum_is : gain / by.divisor ≡ gain_sum m j y = quotient_is by.divisor (gain_sum m j y) gain (gain / by.divisor) positive (joint.gain ∙ sym gain_is) refl in
    let loss_sum_is : loss / by.divisor ≡ loss_sum m j y = quotient_is by.divisor (loss_sum m j y) loss (loss / by.divisor) positive (joint.loss ∙ sym loss_is) refl in
    let gain_less : gain / by.divisor ≤ gain = div-le_self gain by.divisor in
    let loss_less : loss / by.divisor ≤ loss = div-le_self loss by.divisor in
    inl (record { gain = omega arith; loss = omega arith }, gain_sum_is, loss_sum_is)

module _ (m : Matrix) (K : ℕ → Type 0) (y : List ℕ) (by : Multiples) (first second : List ColumnSums) (positive : 0 < by.divisor) (joint : AreJoint m K (slice_index y) by first second) where
  -- columns of neither list have sums of 0
  gap : (left right : List ColumnSums) (n next : ℕ) (sums : List ColumnSums) → AreMerged m K y first second left right n sums → n ≤ next → next ≤ m.columns → AreFrom next m.columns left → AreFrom next m.columns right → AreCarried m K y next sums
  gap left right n next sums h up most from_left from_right =
      carried_gap m K y n next sums up h.carried (λ j past under out.
      let both = joint j (omega arith) out in
      let left_none = sym (h.left_same j past) ∙ sums_free left j (free_under next m.columns left j from_left under) in
      let right_none = sym (h.right_same j past) ∙ sums_free right j (free_under next m.columns right j from_right under) in (
        none_of_both by.divisor (gain_sum m j (slice_index y)) by.first by.second positive (both.gain ∙ ap (λ (o : ColumnSums). by.first * o.gain + by.second * (sums_in second j).gain) left_none ∙ ap (λ (o : ColumnSums). by.first * 0 + by.second * o.gain) right_none),
        none_of_both by.divisor (loss_sum m j (slice_index y)) by.first by.second positive (both.loss ∙ ap (λ (o : ColumnSums). by.first * o.loss + by.second * (sums_in second j).loss) left_none ∙ ap (λ (o : ColumnSums). by.first * 0 + by.second * o.loss) right_none),
      ))

  pub merged_start : AreListed m.columns first → AreListed m.columns second → AreMerged m K y first second first second 0 []
  merged_start one two = record {
    carried = carried_start m K y;
    few = omega arith;
    left_from = record { ascending = one.ascending; above = λ k d under. omega arith; within = one.within };
    right_from = record { ascending = two.ascending; above = λ k d under. omega arith; within = two.within };
    left_same = λ j past. refl;
    right_same = λ j past. refl;
  }

  pub merged_end : (left right : List ColumnSums) (n : ℕ) (sums : List ColumnSums) → AreMerged m K y first second left right n sums → length left ≡ 0 → length right ≡ 0 → AreCarried m K y m.columns sums
  merged_end left right n sums h one two = gap left right n m.columns sums h h.few (omega arith) (from_none m.columns m.columns left one) (from_none m.columns m.columns right two)

  module _ (left right : List ColumnSums) (n : ℕ) (sums : List ColumnSums) (h : AreMerged m K y first second left right n sums) (j : ℕ) (from_left : AreFrom j m.columns left) (from_right : AreFrom j m.columns right) (begins : BeginsAt j left ⊎ BeginsAt j right) where
    -- the lowest column is one of the matrix that wasn't passed
    pub column_within : j < m.columns
    column_within = elim begins [
      | inl b ↦ let under = from_left.within 0 zero_sums b.some in let at = b.column in omega arith
      | inr b ↦ let under = from_right.within 0 zero_sums b.some in let at = b.column in omega arith
    ]

    column_past : n ≤ j
    column_past = elim begins [
      | inl b ↦ let above = h.left_from.above 0 zero_sums b.some in let at = b.column in omega arith
      | inr b ↦ let above = h.right_from.above 0 zero_sums b.some in let at = b.column in omega arith
    ]

    pub joint_here : (own other : ColumnSums) → own ≡ sums_in left j → other ≡ sums_in right j → (K j → ⊥) → AreJointAt m j (slice_index y) by own other
    joint_here own other own_is other_is out =
        let both = joint j column_within out in
        subst (λ (o : ColumnSums). AreJointAt m j (slice_index y) by o other) (sym (own_is ∙ h.left_same j column_past))
        (subst (AreJointAt m j (slice_index y) by (sums_in first j)) (sym (other_is ∙ h.right_same j column_past)) both)

    reached : AreCarried m K y j sums
    reached = let under = column_within in gap left right n j sums h column_past (omega arith) from_left from_right

    module _ (own other : ColumnSums) (others rest : List ColumnSums) (one : AreTaken m.columns left j own others) (two : AreTaken m.columns right j other rest) where
      next : (new : List ColumnSums) → AreCarried m K y (j + 1) new → AreMerged m K y first second others rest (j + 1) new
      next new carried = let under = column_within in let past = column_past in record {
        carried = carried;
        few = omega arith;
        left_from = one.from;
        right_from = two.from;
        left_same = λ i above. one.same i (omega arith) ∙ h.left_same i (omega arith);
        right_same = λ i above. two.same i (omega arith) ∙ h.right_same i (omega arith);
      }

      pub merged_inside : K j → AreMerged m K y first second others rest (j + 1) sums
      merged_inside inside = next sums (carried_inside m K y j sums inside reached)

      pub merged_more : (made : ColumnSums) → AreSumsAt m j (slice_index y) made → made.column ≡ j → AreMerged m K y first second others rest (j + 1) (sums ++ made ∷ [])
      merged_more made at column = next (sums ++ made ∷ []) (carried_more m K y j sums made at column reached)

      pub shorter : length others + length rest < length left + length right
      shorter = let a = one.shorter in let b = two.shorter in elim begins [
        | inl left_begins ↦ let less = one.begins left_begins in omega arith
        | inr right_begins ↦ let less = two.begins right_begins in omega arith
      ]

-- what a test of emptiness says
pub none_where : (n : ℕ) (b : Bool) → b ≡ (n == 0) → b ≡ true → n ≡ 0
none_where n b is empty = eqb-true n 0 (sym is ∙ empty)

pub some_where : (n : ℕ) (b : Bool) → b ≡ (n == 0) → b ≡ false → 0 < n
some_where n b is full = let not = eqb-false n 0 (sym is ∙ full) in elim (cases_eq n 0) [
  | inl zero_is ↦ absurd (not zero_is)
  | inr other ↦ omega arith
]
