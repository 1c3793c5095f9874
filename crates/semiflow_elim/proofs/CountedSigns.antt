-- What the counts of a column say of the rows: whether a sum there is wide, and the candidate count.
use Rattle.std.proofs.Common.{◌≡◌, ◌⊎◌, refl, sym, ap, ◌∙◌, subst, ℕ, suc, ◌+◌, ◌*◌, ◌-◌, ◌^◌, ◌<◌, ◌≤◌, ◌==◌, nat_lt, Bool, true, false, cond, List, [], ◌∷◌, length, get_or, slice_index, inl, inr, arith}
use Rattle.std.specs.Prelude.{count_by}
use Rattle.std.proofs.lemmas.Bool.{cases_order, eq-eqb, eqb-true, ne_eqb, lt-ltb, le-ltb, false≢true}
use Rattle.std.proofs.lemmas.List.{get_or_default, take_all}
use Rattle.std.proofs.lemmas.List.Sums.{sum_by-cons, get_or-le-sum_by}
use Rattle.incidence.specs.Matrix.{Matrix, AreNarrow, gain_sum, loss_sum}
use Rattle.semiflow_elim.specs.Carried.{sums_in, AreSumsAt, CarryTheirs, list_of}
use Rattle.semiflow_elim.specs.Counts.{counts_of, AreCounted, candidates_at, is_wide, is_above, is_below}
use Rattle.semiflow_elim.specs.Elimination.{AreNarrowAt, AreWideAt, candidate_count, is_zero, is_positive, is_negative, row_of}
use Rattle.semiflow_elim.specs.declared.carried.ColumnSums.{ColumnSums}
use Rattle.semiflow_elim.specs.declared.counts.ColumnCounts.{ColumnCounts}
use Rattle.semiflow_elim.proofs.Steps.{counts_same}

one_of : (b : Bool) → cond {A = ℕ} b 1 0 ≤ 0 → b ≡ false
one_of true none = absurd (omega arith)
one_of false none = refl

-- none has what is counted where the count is 0
none_counted : {X : Type 0} (p : X → Bool) (xs : List X) → count_by p xs ≡ 0 → (k : ℕ) (d : X) → k < length xs → p (get_or xs k d) ≡ false
none_counted p xs none k d under =
    let most = get_or-le-sum_by (λ x. cond {A = ℕ} (p x) 1 0) xs k d under in
    one_of (p (get_or xs k d)) (omega arith)

-- and some one where it isn't
some_by : {X : Type 0} (p : X → Bool) (x : X) (xs : List X) (d : X) (b : Bool) → p x ≡ b → 0 < cond {A = ℕ} b 1 0 + count_by p xs → (0 < count_by p xs → (k : ℕ) × (k < length xs) × (p (get_or xs k d) ≡ true)) → (k : ℕ) × (k < length (x ∷ xs)) × (p (get_or (x ∷ xs) k d) ≡ true)
some_by p x xs d true is some rest = (0, omega arith, is)
some_by p x xs d false is some rest = let r = rest (omega arith) in (suc r.0, omega (arith, r.1), r.2)

some_counted : {X : Type 0} (p : X → Bool) (xs : List X) (d : X) → 0 < count_by p xs → (k : ℕ) × (k < length xs) × (p (get_or xs k d) ≡ true)
some_counted p [] d some = absurd (omega arith)
some_counted p (x ∷ xs) d some =
    let sum = sum_by-cons (λ y. cond {A = ℕ} (p y) 1 0) x xs in
    some_by p x xs d (p x) refl (omega arith) (some_counted p xs d)

-- each number is equal to, above or below another
ways_of : (equal above below : Bool) → ((equal ≡ true) × (above ≡ false) × (below ≡ false)) ⊎ (((equal ≡ false) × (above ≡ true) × (below ≡ false)) ⊎ ((equal ≡ false) × (above ≡ false) × (below ≡ true))) → cond {A = ℕ} equal 1 0 + cond {A = ℕ} above 1 0 + cond {A = ℕ} below 1 0 ≡ 1
ways_of equal above below (inl h) = rw (h.0, h.1, h.2) refl
ways_of equal above below (inr (inl h)) = rw (h.0, h.1, h.2) refl
ways_of equal above below (inr (inr h)) = rw (h.0, h.1, h.2) refl

three_ways : (f g : ℕ) → cond {A = ℕ} (f == g) 1 0 + cond {A = ℕ} (nat_lt g f) 1 0 + cond {A = ℕ} (nat_lt f g) 1 0 ≡ 1
three_ways f g =
    elim (cases_order f g) [
      | inl same ↦ ways_of (f == g) (nat_lt g f) (nat_lt f g) (inl (eq-eqb f g same, le-ltb g f (omega arith), le-ltb f g (omega arith)))
      | inr apart ↦ elim apart [
        | inl below ↦ ways_of (f == g) (nat_lt g f) (nat_lt f g) (inr (inr (ne_eqb f g (λ same. omega arith), le-ltb g f (omega arith), lt-ltb f g below)))
        | inr above ↦ ways_of (f == g) (nat_lt g f) (nat_lt f g) (inr (inl (ne_eqb f g (λ same. omega arith), lt-ltb g f above, le-ltb f g (omega arith))))
      ]
    ]

ways_counted : {X : Type 0} (f g : X → ℕ) (xs : List X) → count_by (λ x. f x == g x) xs + count_by (λ x. nat_lt (g x) (f x)) xs + count_by (λ x. nat_lt (f x) (g x)) xs ≡ length xs
ways_counted f g [] = refl
ways_counted f g (x ∷ xs) =
    let equal = sum_by-cons (λ y. cond {A = ℕ} (f y == g y) 1 0) x xs in
    let above = sum_by-cons (λ y. cond {A = ℕ} (nat_lt (g y) (f y)) 1 0) x xs in
    let below = sum_by-cons (λ y. cond {A = ℕ} (nat_lt (f y) (g y)) 1 0) x xs in
    let one = three_ways (f x) (g x) in
    let rest = ways_counted f g xs in
    omega (arith, equal, above, below, one, rest)

module _ (m : Matrix) (K : ℕ → Type 0) (rows : List (List ℕ)) (carried : List (List ColumnSums)) (counts : List ColumnCounts) (theirs : CarryTheirs m K rows carried) (h : AreCounted carried (length carried) m.columns counts) (j : ℕ) (within : j < m.columns) where
  wide_is : (counts_of counts j).wide ≡ count_by (λ sums. is_wide (sums_in sums j)) carried
  wide_is = h.wide j within ∙ ap (count_by (λ sums. is_wide (sums_in sums j))) (take_all (length carried) carried (omega arith))

  above_is : (counts_of counts j).positive ≡ count_by (λ sums. is_above (sums_in sums j)) carried
  above_is = h.positive j within ∙ ap (count_by (λ sums. is_above (sums_in sums j))) (take_all (length carried) carried (omega arith))

  below_is : (counts_of counts j).negative ≡ count_by (λ sums. is_below (sums_in sums j)) carried
  below_is = h.negative j within ∙ ap (count_by (λ sums. is_below (sums_in sums j))) (take_all (length carried) carried (omega arith))

  pub signs_few : (counts_of counts j).positive + (counts_of counts j).negative ≤ length carried
  signs_few =
      let ways = ways_counted (λ (sums : List ColumnSums). (sums_in sums j).gain) (λ sums. (sums_in sums j).loss) carried in
      omega (arith, above_is, below_is, ways)

  module _ (out : K j → ⊥) where
    sums_at : (k : ℕ) → k < length rows → AreSumsAt m j (slice_index (row_of rows k)) (sums_in (list_of carried k) j)
    sums_at k under = (theirs.each k under).each j within out

    not_wide_narrow : (row : List ℕ) (own : ColumnSums) → AreSumsAt m j (slice_index row) own → is_wide own ≡ false → AreNarrow m j (slice_index row)
    not_wide_narrow row own (inl exact) not = exact.0
    not_wide_narrow row own (inr wide) not = absurd (false≢true (sym not ∙ eq-eqb own.gain (2 ^ 127) wide.1))

    wide_not_narrow : (row : List ℕ) (own : ColumnSums) → AreSumsAt m j (slice_index row) own → is_wide own ≡ true → AreNarrow m j (slice_index row) → ⊥
    wide_not_narrow row own (inl exact) is narrow =
        let gain = exact.1 in
        let at : own.gain ≡ 2 ^ 127 = eqb-true own.gain (2 ^ 127) is in
        let small = narrow.gain in
        omega arith
    wide_not_narrow row own (inr wide) is narrow = wide.0 narrow

    pub none_wide_narrow : (counts_of counts j).wide ≡ 0 → AreNarrowAt m j rows
    none_wide_narrow none k d under =
        let size = theirs.size in
        let not = none_counted (λ sums. is_wide (sums_in sums j)) carried (sym wide_is ∙ none) k [] (omega arith) in
        subst (λ (row : List ℕ). AreNarrow m j (slice_index row)) (get_or_default rows k [] d under) (not_wide_narrow (row_of rows k) (sums_in (list_of carried k) j) (sums_at k under) not)

    pub some_wide : 0 < (counts_of counts j).wide → AreWideAt m j rows
    some_wide some =
        let size = theirs.size in
        let found = some_counted (λ sums. is_wide (sums_in sums j)) carried [] (omega (arith, wide_is, some)) in
        let under : found.0 < length rows = omega (arith, found.1) in
        (found.0, row_of rows found.0, under, get_or_default rows found.0 (row_of rows found.0) [] under, wide_not_narrow (row_of rows found.0) (sums_in (list_of carried found.0) j) (sums_at found.0 under) found.2)

    exact_at : AreNarrowAt m j rows → (k : ℕ) → k < length rows → ((sums_in (list_of carried k) j).gain ≡ gain_sum m j (slice_index (row_of rows k))) × ((sums_in (list_of carried k) j).loss ≡ loss_sum m j (slice_index (row_of rows k)))
    exact_at narrow k under = elim (sums_at k under) [
      | inl exact ↦ (exact.1, exact.2)
      | inr wide ↦ absurd (wide.0 (narrow k [] under))
    ]

    both_same : (p : ℕ → ℕ → Bool) → AreNarrowAt m j rows → count_by (λ sums. p (sums_in sums j).gain (sums_in sums j).loss) carried ≡ count_by (λ row. p (gain_sum m j (slice_index row)) (loss_sum m j (slice_index row))) rows
    both_same p narrow =
        counts_same (λ sums. p (sums_in sums j).gain (sums_in sums j).loss) (λ row. p (gain_sum m j (slice_index row)) (loss_sum m j (slice_index row))) carried rows theirs.size
        (λ k d e under.
        let size = theirs.size in
        let at = exact_at narrow k (omega arith) in
        ap (λ (l : List ColumnSums). p (sums_in l j).gain (sums_in l j).loss) (get_or_default carried k d [] under)
        ∙ ap (λ (x : ℕ). p x (sums_in (list_of carried k) j).loss) at.0
        ∙ ap (λ (x : ℕ). p (gain_sum m j (slice_index (row_of rows k))) x) at.1
        ∙ ap (λ (row : List ℕ). p (gain_sum m j (slice_index row)) (loss_sum m j (slice_index row))) (get_or_default rows k [] e (omega arith)))

    pub candidates_are : AreNarrowAt m j rows → candidates_at counts (length carried) j ≡ candidate_count m j rows
    candidates_are narrow =
        let positives : (counts_of counts j).positive ≡ count_by (is_positive m j) rows = above_is ∙ both_same (λ g l. nat_lt l g) narrow in
        let negatives : (counts_of counts j).negative ≡ count_by (is_negative m j) rows = below_is ∙ both_same (λ g l. nat_lt g l) narrow in
        let ways = ways_counted (λ (row : List ℕ). gain_sum m j (slice_index row)) (λ row. loss_sum m j (slice_index row)) rows in
        let size = theirs.size in
        let zeros : length carried - ((counts_of counts j).positive + (counts_of counts j).negative) ≡ count_by (is_zero m j) rows = omega (arith, ways, positives, negatives) in
        ap (λ (z : ℕ). z + (counts_of counts j).positive * (counts_of counts j).negative) zeros
        ∙ ap (λ (p : ℕ). count_by (is_zero m j) rows + p * (counts_of counts j).negative) positives
        ∙ ap (λ (n : ℕ). count_by (is_zero m j) rows + count_by (is_positive m j) rows * n) negatives
