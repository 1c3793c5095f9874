-- Reading the sums of a column from a list of them, and adding sums at its end.
use Rattle.std.proofs.Common.{◌≡◌, refl, sym, ap, ◌∙◌, subst, ℕ, zero, suc, ◌+◌, ◌<◌, ◌≤◌, ◌==◌, List, [], ◌∷◌, ◌++◌, length, get_or, take, slice_index, inl, inr, arith}
use Rattle.std.proofs.lemmas.Bool.{cases_eq, cases_lt, eq-eqb, ne_eqb, cond-true, cond-false}
use Rattle.std.proofs.lemmas.List.{get_or_default, get_or-take, length-take-le}
use Rattle.std.proofs.lemmas.List.Elements.{All-append}
use Rattle.std.proofs.lemmas.List.Quantifiers.{all_pairs_push}
use Rattle.incidence.specs.Matrix.{Matrix, gain_sum, loss_sum}
use Rattle.semiflow_elim.specs.Carried.{sums_in, AreListed, AreSumsAt, AreCarried}
use Rattle.semiflow_elim.specs.declared.carried.ColumnSums.{ColumnSums}

abbrev pub no_sums : ℕ → ColumnSums
no_sums j = record { column = j; gain = 0; loss = 0 }

-- the list has no sums of the column
abbrev pub IsFree : List ColumnSums → ℕ → Type 0
IsFree sums j = (k : ℕ) → k < length sums → (get_or sums k (no_sums j)).column ≡ j → ⊥

free_rest : (own : ColumnSums) (sums : List ColumnSums) (j : ℕ) → IsFree (own ∷ sums) j → IsFree sums j
free_rest own sums j free k under = free (suc k) (omega arith)

pub sums_here : (own : ColumnSums) (sums : List ColumnSums) (j : ℕ) → own.column ≡ j → sums_in (own ∷ sums) j ≡ own
sums_here own sums j same = cond-true {A = ColumnSums} (own.column == j) own (sums_in sums j) (eq-eqb own.column j same)

pub sums_past : (own : ColumnSums) (sums : List ColumnSums) (j : ℕ) → (own.column ≡ j → ⊥) → sums_in (own ∷ sums) j ≡ sums_in sums j
sums_past own sums j other = cond-false {A = ColumnSums} (own.column == j) own (sums_in sums j) (ne_eqb own.column j other)

pub sums_free : (sums : List ColumnSums) (j : ℕ) → IsFree sums j → sums_in sums j ≡ no_sums j
sums_free [] j free = refl
sums_free (own ∷ sums) j free = sums_past own sums j (free 0 (omega arith)) ∙ sums_free sums j (free_rest own sums j free)

-- sums that are in order have none of a column that lies before one of them and after all before that one
pub free_passed : (width : ℕ) (sums : List ColumnSums) (j k : ℕ) → AreListed width sums → k < length sums → j < (get_or sums k (no_sums j)).column → ((i : ℕ) → i < k → (get_or sums i (no_sums j)).column ≡ j → ⊥) → IsFree sums j
free_passed width sums j k h within past before i under same =
    elim (cases_lt i k) [
      | inl below ↦ before i below same
      | inr above ↦ elim (cases_eq i k) [
        | inl here ↦ let own : (get_or sums i (no_sums j)).column ≡ (get_or sums k (no_sums j)).column = ap (λ (n : ℕ). (get_or sums n (no_sums j)).column) here in omega arith
        | inr apart ↦ let later = h.ascending k i (no_sums j) (omega arith) under in omega arith
      ]
    ]

-- one more at the end
pub pushed_other : (sums : List ColumnSums) (own : ColumnSums) (j : ℕ) → (own.column ≡ j → ⊥) → sums_in (sums ++ own ∷ []) j ≡ sums_in sums j
pushed_other [] own j other = sums_past own [] j other
pushed_other (first ∷ sums) own j other =
    elim (cases_eq first.column j) [
      | inl same ↦ sums_here first (sums ++ own ∷ []) j same ∙ sym (sums_here first sums j same)
      | inr apart ↦ sums_past first (sums ++ own ∷ []) j apart ∙ pushed_other sums own j other ∙ sym (sums_past first sums j apart)
    ]

pub pushed_same : (sums : List ColumnSums) (own : ColumnSums) (j : ℕ) → own.column ≡ j → IsFree sums j → sums_in (sums ++ own ∷ []) j ≡ own
pushed_same [] own j same free = sums_here own [] j same
pushed_same (first ∷ sums) own j same free = sums_past first (sums ++ own ∷ []) j (free 0 (omega arith)) ∙ pushed_same sums own j same (free_rest first sums j free)

-- the first sums of the column that are met
pub sums_met : (sums : List ColumnSums) (j k : ℕ) → ((i : ℕ) → i < k → (get_or sums i (no_sums j)).column ≡ j → ⊥) → k < length sums → (get_or sums k (no_sums j)).column ≡ j → sums_in sums j ≡ get_or sums k (no_sums j)
sums_met [] j k before under same = absurd (omega arith)
sums_met (own ∷ sums) j zero before under same = sums_here own sums j same
sums_met (own ∷ sums) j (suc k) before under same = sums_past own sums j (before 0 (omega arith)) ∙ sums_met sums j k (λ i less. before (suc i) (omega arith)) (omega arith) same

-- sums in order have those of each column once: none of the first k are of the column of the next
pub free_front : (width : ℕ) (sums : List ColumnSums) (k : ℕ) → AreListed width sums → k < length sums → (d : ColumnSums) → IsFree (take k sums) (get_or sums k d).column
free_front width sums k h under d i inside same =
    let size = length-take-le k sums (omega arith) in
    let own : ColumnSums = get_or sums k d in
    let none = no_sums own.column in
    let read : get_or (take k sums) i none ≡ get_or sums i none = get_or-take k sums i none (omega arith) in
    let less = h.ascending i k none (omega arith) under in
    let here : (get_or sums k none).column ≡ own.column = ap (λ (o : ColumnSums). o.column) (get_or_default sums k none d under) in
    let there : (get_or sums i none).column ≡ own.column = sym (ap (λ (o : ColumnSums). o.column) read) ∙ same in
    omega arith

-- so the sums of its column are the next ones
pub listed_in : (width : ℕ) (sums : List ColumnSums) (k : ℕ) → AreListed width sums → k < length sums → (d : ColumnSums) → sums_in sums (get_or sums k d).column ≡ get_or sums k d
listed_in width sums k h under d =
    let own : ColumnSums = get_or sums k d in
    let none = no_sums own.column in
    let here : get_or sums k none ≡ own = get_or_default sums k none d under in
    let column : (get_or sums k none).column ≡ own.column = ap (λ (o : ColumnSums). o.column) here in
    sums_met sums own.column k (λ i before same. let less = h.ascending i k none before under in omega (arith, less, same, column)) under column ∙ here

pub free_below : (n : ℕ) (sums : List ColumnSums) (j : ℕ) → AreListed n sums → n ≤ j → IsFree sums j
free_below n sums j h past k under same = let below = h.within k (no_sums j) under in omega arith

module _ (m : Matrix) (K : ℕ → Type 0) (row : List ℕ) (n : ℕ) (sums : List ColumnSums) where
  listed_on : AreListed n sums → AreListed (n + 1) sums
  listed_on h = record { ascending = h.ascending; within = λ k d under. let below = h.within k d under in omega arith }

  pub carried_skip : AreCarried m K row n sums → ((K n → ⊥) → AreSumsAt m n (slice_index row) (sums_in sums n)) → AreCarried m K row (n + 1) sums
  carried_skip h last = record {
    each = λ j under out. elim (cases_lt j n) [
      | inl below ↦ h.each j below out
      | inr above ↦ let same : n ≡ j = omega arith in subst (λ (i : ℕ). AreSumsAt m i (slice_index row) (sums_in sums i)) same (last (λ inside. out (subst K same inside)))
    ];
    listed = listed_on h.listed;
  }

  -- a column of the set
  pub carried_inside : K n → AreCarried m K row n sums → AreCarried m K row (n + 1) sums
  carried_inside inside h = carried_skip h (λ out. absurd (out inside))

  same_sums : (own other : ColumnSums) → own.gain ≡ other.gain → own.loss ≡ other.loss → AreSumsAt m n (slice_index row) own → AreSumsAt m n (slice_index row) other
  same_sums own other gain loss (inl narrow) = inl (narrow.0, sym gain ∙ narrow.1, sym loss ∙ narrow.2)
  same_sums own other gain loss (inr wide) = inr (wide.0, sym gain ∙ wide.1)

  -- sums that are both 0 are left out
  pub carried_none : (own : ColumnSums) → AreSumsAt m n (slice_index row) own → own.gain ≡ 0 → own.loss ≡ 0 → AreCarried m K row n sums → AreCarried m K row (n + 1) sums
  carried_none own at gain loss h =
      let none = sums_free sums n (free_below n sums n h.listed (omega arith)) in
      carried_skip h (λ out. same_sums own (sums_in sums n) (gain ∙ sym (ap (λ (o : ColumnSums). o.gain) none)) (loss ∙ sym (ap (λ (o : ColumnSums). o.loss) none)) at)

  pub carried_more : (own : ColumnSums) → AreSumsAt m n (slice_index row) own → own.column ≡ n → AreCarried m K row n sums → AreCarried m K row (n + 1) (sums ++ own ∷ [])
  carried_more own at column h = record {
    each = λ j under out. elim (cases_lt j n) [
      | inl below ↦ subst (AreSumsAt m j (slice_index row)) (sym (pushed_other sums own j (λ same. omega arith))) (h.each j below out)
      | inr above ↦
          let same : n ≡ j = omega arith in
          subst (λ (i : ℕ). AreSumsAt m i (slice_index row) (sums_in (sums ++ own ∷ []) i)) same
          (subst (AreSumsAt m n (slice_index row)) (sym (pushed_same sums own n column (free_below n sums n h.listed (omega arith)))) at)
    ];
    listed = record {
      ascending = all_pairs_push (λ own later. own.column < later.column) sums own h.listed.ascending (λ k d below. let under = h.listed.within k d below in omega arith);
      within = All-append (λ own. own.column < n + 1) sums (own ∷ []) (λ k d below. let under = h.listed.within k d below in omega arith) (λ k d below. elim (cases_eq k 0) [
        | inl first ↦ subst (λ (i : ℕ). (get_or (own ∷ []) i d).column < n + 1) (sym first) (omega arith)
        | inr more ↦ absurd (omega arith)
      ]);
    };
  }

pub carried_start : (m : Matrix) (K : ℕ → Type 0) (row : List ℕ) → AreCarried m K row 0 []
carried_start m K row = record {
  each = λ j under. absurd (omega arith);
  listed = record {
    ascending = λ i j d before under. absurd (omega arith);
    within = λ k d under. absurd (omega arith);
  };
}

-- the sums of columns at which they are 0 needn't be listed
pub carried_gap : (m : Matrix) (K : ℕ → Type 0) (row : List ℕ) (n next : ℕ) (sums : List ColumnSums) → n ≤ next → AreCarried m K row n sums → ((j : ℕ) → n ≤ j → j < next → (K j → ⊥) → (gain_sum m j (slice_index row) ≡ 0) × (loss_sum m j (slice_index row) ≡ 0)) → AreCarried m K row next sums
carried_gap m K row n next sums up h none = record {
  each = λ j under out. elim (cases_lt j n) [
    | inl below ↦ h.each j below out
    | inr past ↦
        let zero_sums = none j past under out in
        subst (AreSumsAt m j (slice_index row)) (sym (sums_free sums j (free_below n sums j h.listed past)))
        (inl (record { gain = omega (arith, zero_sums.0); loss = omega (arith, zero_sums.1) }, sym zero_sums.0, sym zero_sums.1))
  ];
  listed = record { ascending = h.listed.ascending; within = λ k d under. let below = h.listed.within k d under in omega arith };
}
