-- What rows carry: one more row, and the rows that stay in a step.
use Rattle.std.proofs.Common.{refl, sym, subst, ℕ, ◌-◌, ◌<◌, List, [], ◌∷◌, ◌++◌, length, length-append, All, inl, inr, arith}
use Rattle.std.proofs.lemmas.Bool.{cases_lt}
use Rattle.std.proofs.lemmas.List.{get_or_append_left, get_or-append_right, get_or_default, get_or_push, length_push}
use Rattle.incidence.specs.Matrix.{Matrix}
use Rattle.semiflow_elim.specs.Carried.{AreCarried, AreListed, CarryTheirs, list_of}
use Rattle.semiflow_elim.specs.Elimination.{row_of}
use Rattle.semiflow_elim.specs.Kept.{AreKept}
use Rattle.semiflow_elim.specs.declared.signs.RowSums.{RowSums}
use Rattle.semiflow_elim.specs.declared.carried.ColumnSums.{ColumnSums}

pub carry_none : (m : Matrix) (K : ℕ → Type 0) → CarryTheirs m K [] []
carry_none m K = record { size = refl; each = λ k under. absurd (omega arith) }

pub carry_more : (m : Matrix) (K : ℕ → Type 0) (rows : List (List ℕ)) (carried : List (List ColumnSums)) (row : List ℕ) (sums : List ColumnSums) → CarryTheirs m K rows carried → AreCarried m K row m.columns sums → CarryTheirs m K (rows ++ row ∷ []) (carried ++ sums ∷ [])
carry_more m K rows carried row sums h last =
    let size = h.size in
    let rows_pushed = length_push rows row in
    let carried_pushed = length_push carried sums in
    record {
      size = omega arith;
      each = λ k under. elim (cases_lt k (length rows)) [
        | inl below ↦
            subst (λ (r : List ℕ). AreCarried m K r m.columns (list_of (carried ++ sums ∷ []) k)) (sym (get_or_append_left rows (row ∷ []) [] k below))
            (subst (AreCarried m K (row_of rows k) m.columns) (sym (get_or_append_left carried (sums ∷ []) [] k (omega arith))) (h.each k below))
        | inr above ↦
            subst (λ (r : List ℕ). AreCarried m K r m.columns (list_of (carried ++ sums ∷ []) k)) (sym (get_or_push rows row [] k (omega arith)))
            (subst (AreCarried m K row m.columns) (sym (get_or_push carried sums [] k (omega arith))) last)
      ];
    }

pub carried_along : (m : Matrix) (K K' : ℕ → Type 0) (row : List ℕ) (n : ℕ) (sums : List ColumnSums) → ((j : ℕ) → K j → K' j) → AreCarried m K row n sums → AreCarried m K' row n sums
carried_along m K K' row n sums more h = record { each = λ j under out. h.each j under (λ inside. out (more j inside)); listed = h.listed }

-- what rows carry is in the order of the columns
pub carried_listed : (m : Matrix) (K : ℕ → Type 0) (rows : List (List ℕ)) (carried : List (List ColumnSums)) → CarryTheirs m K rows carried → All (AreListed m.columns) carried
carried_listed m K rows carried h k d under =
    let size = h.size in
    subst (AreListed m.columns) (get_or_default carried k [] d under) (h.each k (omega arith)).listed

module _ (m : Matrix) (K K' : ℕ → Type 0) (more : (j : ℕ) → K j → K' j) (rows joined : List (List ℕ)) (carried joined_carried : List (List ColumnSums)) (h : CarryTheirs m K rows carried) (j : CarryTheirs m K' joined joined_carried) where
  -- rows and what was added to them
  all_carried : (a : ℕ) → a < length (rows ++ joined) → AreCarried m K' (row_of (rows ++ joined) a) m.columns (list_of (carried ++ joined_carried) a)
  all_carried a under =
      let size = h.size in
      elim (cases_lt a (length rows)) [
        | inl old ↦
            subst (λ (r : List ℕ). AreCarried m K' r m.columns (list_of (carried ++ joined_carried) a)) (sym (get_or_append_left rows joined [] a old))
            (subst (AreCarried m K' (row_of rows a) m.columns) (sym (get_or_append_left carried joined_carried [] a (omega arith))) (carried_along m K K' (row_of rows a) m.columns (list_of carried a) more (h.each a old)))
        | inr past ↦
            subst (λ (r : List ℕ). AreCarried m K' r m.columns (list_of (carried ++ joined_carried) a)) (sym (get_or-append_right rows joined (length rows) a [] refl past))
            (subst (AreCarried m K' (row_of joined (a - length rows)) m.columns) (sym (get_or-append_right carried joined_carried (length rows) a [] size past)) (j.each (a - length rows) (omega (arith, under, length-append rows joined))))
      ]

  pub all_listed : All (AreListed m.columns) (carried ++ joined_carried)
  all_listed a d under =
      let size = h.size in
      let joined_size = j.size in
      let all = length-append rows joined in
      let all_carried_size = length-append carried joined_carried in
      subst (AreListed m.columns) (get_or_default (carried ++ joined_carried) a [] d under) (all_carried a (omega (arith, under))).listed

  -- those that stay
  pub kept_carried : (sums : List RowSums) (new : List (List ℕ)) (new_carried : List (List ColumnSums)) → AreKept sums (rows ++ joined) (carried ++ joined_carried) new new_carried → CarryTheirs m K' new new_carried
  kept_carried sums new new_carried kept = record {
    size = kept.carried_size;
    each = λ k under.
        let s = kept.sources k under in
        subst (λ (r : List ℕ). AreCarried m K' r m.columns (list_of new_carried k)) (sym s.3) (subst (AreCarried m K' (row_of (rows ++ joined) s.0) m.columns) (sym s.4) (all_carried s.0 s.1));
  }
