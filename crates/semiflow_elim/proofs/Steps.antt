-- The sums of the rows of a step: the signs that are read off them are those of the rows.
use Rattle.std.proofs.Common.{◌≡◌, refl, sym, ap, ◌∙◌, subst, ℕ, suc, ◌+◌, ◌*◌, ◌<◌, ◌==◌, nat_lt, Bool, cond, List, [], ◌∷◌, length, replicate, get_or, set, slice_index, count_by, inl, inr, arith}
use Rattle.std.proofs.lemmas.Bool.{cases_eq}
use Rattle.std.proofs.lemmas.List.{get_or_default, get_or-set_same, get_or-set_other, length-set, length-replicate, get_or-replicate}
use Rattle.std.proofs.lemmas.List.Sums.{sum_by-cons}
use Rattle.incidence.specs.Matrix.{Matrix, gain_sum, loss_sum}
use Rattle.semiflow_elim.specs.Bases.{IsBasis, in_set}
use Rattle.semiflow_elim.specs.Candidates.{IsStep, AreSums, AreRead, AreReadUpTo, IsRead, sums_of, signs_total}
use Rattle.semiflow_elim.specs.Elimination.{AreNarrowAt, candidate_count, is_zero, is_positive, is_negative, row_of}
use Rattle.semiflow_elim.specs.Carried.{CarryTheirs, list_of, sums_in}
use Rattle.semiflow_elim.specs.declared.carried.ColumnSums.{ColumnSums}
use Rattle.semiflow_elim.specs.declared.signs.RowSums.{RowSums}

pub counts_same : {X Y : Type 0} (p : X → Bool) (q : Y → Bool) (xs : List X) (ys : List Y) → length xs ≡ length ys → ((k : ℕ) (d : X) (e : Y) → k < length xs → p (get_or xs k d) ≡ q (get_or ys k e)) → count_by p xs ≡ count_by q ys
counts_same p q [] [] size each = refl
counts_same p q [] (y ∷ ys) size each = absurd (omega arith)
counts_same p q (x ∷ xs) [] size each = absurd (omega arith)
counts_same p q (x ∷ xs) (y ∷ ys) size each =
    let first : cond {A = ℕ} (p x) 1 0 ≡ cond {A = ℕ} (q y) 1 0 = ap (λ (b : Bool). cond {A = ℕ} b 1 0) (each 0 x y (omega arith)) in
    let rest = counts_same p q xs ys (omega arith) (λ k d e under. each (suc k) d e (omega arith)) in
    let left = sum_by-cons (λ x. cond {A = ℕ} (p x) 1 0) x xs in
    let right = sum_by-cons (λ y. cond {A = ℕ} (q y) 1 0) y ys in
    omega (arith, first, rest, left, right)

module _ (m : Matrix) (c : ℕ) (rows : List (List ℕ)) (sums : List RowSums) (h : AreSums m c rows sums (length rows)) where
  gain_at : (k : ℕ) (d : RowSums) (e : List ℕ) → k < length sums → (get_or sums k d).gain ≡ gain_sum m c (slice_index (get_or rows k e))
  gain_at k d e under =
      let size = h.size in
      ap (λ (own : RowSums). own.gain) (get_or_default sums k d record { gain = 0; loss = 0; largest = 0 } under) ∙ h.gains k (omega arith)
      ∙ ap (λ (row : List ℕ). gain_sum m c (slice_index row)) (get_or_default rows k [] e (omega arith))

  loss_at : (k : ℕ) (d : RowSums) (e : List ℕ) → k < length sums → (get_or sums k d).loss ≡ loss_sum m c (slice_index (get_or rows k e))
  loss_at k d e under =
      let size = h.size in
      ap (λ (own : RowSums). own.loss) (get_or_default sums k d record { gain = 0; loss = 0; largest = 0 } under) ∙ h.losses k (omega arith)
      ∙ ap (λ (row : List ℕ). loss_sum m c (slice_index row)) (get_or_default rows k [] e (omega arith))

  pub total_is : signs_total sums ≡ candidate_count m c rows
  total_is =
      let zeros = counts_same (λ (own : RowSums). own.gain == own.loss) (is_zero m c) sums rows h.size (λ k d e under. ap (λ (g : ℕ). g == (get_or sums k d).loss) (gain_at k d e under) ∙ ap (λ (l : ℕ). gain_sum m c (slice_index (get_or rows k e)) == l) (loss_at k d e under)) in
      let positives = counts_same (λ (own : RowSums). nat_lt own.loss own.gain) (is_positive m c) sums rows h.size (λ k d e under. ap (λ (g : ℕ). nat_lt (get_or sums k d).loss g) (gain_at k d e under) ∙ ap (λ (l : ℕ). nat_lt l (gain_sum m c (slice_index (get_or rows k e)))) (loss_at k d e under)) in
      let negatives = counts_same (λ (own : RowSums). nat_lt own.gain own.loss) (is_negative m c) sums rows h.size (λ k d e under. ap (λ (g : ℕ). nat_lt g (get_or sums k d).loss) (gain_at k d e under) ∙ ap (λ (l : ℕ). nat_lt (gain_sum m c (slice_index (get_or rows k e))) l) (loss_at k d e under)) in
      ap (λ (z : ℕ). z + count_by (λ (own : RowSums). nat_lt own.loss own.gain) sums * count_by (λ (own : RowSums). nat_lt own.gain own.loss) sums) zeros
      ∙ ap (λ (p : ℕ). count_by (is_zero m c) rows + p * count_by (λ (own : RowSums). nat_lt own.gain own.loss) sums) positives
      ∙ ap (λ (n : ℕ). count_by (is_zero m c) rows + count_by (is_positive m c) rows * n) negatives

  pub sums_step : c < m.columns → (taken : List Bool) → IsBasis m (in_set taken) rows → IsStep m c rows sums
  sums_step column taken basis = record {
    column = column;
    taken = taken;
    basis = basis;
    size = h.size;
    gains = h.gains;
    losses = h.losses;
    largest = h.largest;
  }

-- no sums were read yet
pub read_none : (c : ℕ) (rows : List (List ℕ)) (carried : List (List ColumnSums)) (sums : List RowSums) → sums ≡ replicate (length rows) record { gain = 0; loss = 0; largest = 0 } → AreReadUpTo c rows carried sums 0
read_none c rows carried sums is =
    let none : RowSums = record { gain = 0; loss = 0; largest = 0 } in
    record {
      size = ap length is ∙ length-replicate {A = RowSums} (length rows) none;
      each = λ k under. absurd (omega arith);
      rest = λ k past under. ap (λ (l : List RowSums). sums_of l k) is ∙ get_or-replicate (length rows) k none none under;
    }

module _ (c : ℕ) (rows : List (List ℕ)) (carried : List (List ColumnSums)) (sums : List RowSums) (i : ℕ) (under_rows : i < length rows) (h : AreReadUpTo c rows carried sums i) where
  -- row i has sums at the column
  pub read_set : (own : RowSums) → IsRead (row_of rows i) (sums_in (list_of carried i) c) own → AreReadUpTo c rows carried (set sums i own) (i + 1)
  read_set own has =
      let size = h.size in
      let none : RowSums = record { gain = 0; loss = 0; largest = 0 } in
      record {
        size = length-set sums i own ∙ size;
        each = λ k under. elim (cases_eq k i) [
          | inl same ↦
              subst (λ (j : ℕ). IsRead (row_of rows j) (sums_in (list_of carried j) c) (sums_of (set sums i own) j)) (sym same)
              (subst (IsRead (row_of rows i) (sums_in (list_of carried i) c)) (sym (get_or-set_same sums i own none (omega arith))) has)
          | inr other ↦ subst (IsRead (row_of rows k) (sums_in (list_of carried k) c)) (sym (get_or-set_other sums i k own none other)) (h.each k (omega arith))
        ];
        rest = λ k past under. get_or-set_other sums i k own none (λ same. omega (arith, past, same)) ∙ h.rest k (omega arith) under;
      }

  -- it has none
  pub read_skip : sums_in (list_of carried i) c ≡ record { column = c; gain = 0; loss = 0 } → AreReadUpTo c rows carried sums (i + 1)
  read_skip none =
      let zero = h.rest i (omega arith) under_rows in
      let gain : (sums_of sums i).gain ≡ 0 = ap (λ (own : RowSums). own.gain) zero in
      let loss : (sums_of sums i).loss ≡ 0 = ap (λ (own : RowSums). own.loss) zero in
      record {
        size = h.size;
        each = λ k under. elim (cases_eq k i) [
          | inl same ↦ subst (λ (j : ℕ). IsRead (row_of rows j) (sums_in (list_of carried j) c) (sums_of sums j)) (sym same) record {
            gain = gain ∙ sym (ap (λ (own : ColumnSums). own.gain) none);
            loss = loss ∙ sym (ap (λ (own : ColumnSums). own.loss) none);
            largest = λ differ. absurd (differ (gain ∙ sym loss));
          }
          | inr other ↦ h.each k (omega arith)
        ];
        rest = λ k past under. h.rest k (omega arith) under;
      }

-- where no sum at the column is wide, they are the sums of the rows
pub read_sums : (m : Matrix) (K : ℕ → Type 0) (c : ℕ) (rows : List (List ℕ)) (carried : List (List ColumnSums)) (sums : List RowSums) → CarryTheirs m K rows carried → c < m.columns → (K c → ⊥) → AreNarrowAt m c rows → AreRead c rows carried sums (length rows) → AreSums m c rows sums (length rows)
read_sums m K c rows carried sums theirs within out narrow h =
    let at : (k : ℕ) → k < length rows → ((sums_in (list_of carried k) c).gain ≡ gain_sum m c (slice_index (row_of rows k))) × ((sums_in (list_of carried k) c).loss ≡ loss_sum m c (slice_index (row_of rows k))) =
    λ k under. elim ((theirs.each k under).each c within out) [
      | inl exact ↦ (exact.1, exact.2)
      | inr wide ↦ absurd (wide.0 (narrow k [] under))
    ]
    in
    record {
      size = h.size;
      gains = λ k under. (h.each k under).gain ∙ (at k under).0;
      losses = λ k under. (h.each k under).loss ∙ (at k under).1;
      narrow = λ k under. narrow k [] under;
      largest = λ k under. (h.each k under).largest;
    }
