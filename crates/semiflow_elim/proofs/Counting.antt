-- Counting the rows of a sign at each column, one row after another.
use Rattle.std.proofs.Common.{◌≡◌, sym, ap, ◌∙◌, subst, ℕ, suc, ◌+◌, ◌^◌, ◌<◌, ◌≤◌, Bool, cond, List, [], ◌∷◌, ◌++◌, length, get_or, set, take, All, inl, inr, arith}
use Rattle.std.specs.Prelude.{count_by}
use Rattle.std.proofs.lemmas.Bool.{cases_eq}
use Rattle.std.proofs.lemmas.List.{get_or_default, get_or-set_same, get_or-set_other, length-set}
use Rattle.std.proofs.lemmas.List.Sums.{sum_by_more, sum_by-take-le, count_by-le-length}
use Rattle.std.proofs.Math.Seq.{take-suc}
use Rattle.semiflow_elim.specs.Carried.{sums_in, AreListed, list_of}
use Rattle.semiflow_elim.specs.Counts.{counts_of, counted, AreCountedIn, AreCounted, AreIncluded, IsIncluded, is_wide, is_above, is_below}
use Rattle.semiflow_elim.specs.declared.carried.ColumnSums.{ColumnSums}
use Rattle.semiflow_elim.specs.declared.counts.ColumnCounts.{ColumnCounts}
use Rattle.semiflow_elim.proofs.CarriedSums.{no_sums, IsFree, sums_free, pushed_same, pushed_other, free_front, listed_in}

abbrev counts_with : ℕ → ℕ → ℕ → ColumnCounts
counts_with wide positive negative = record { wide = wide; positive = positive; negative = negative }

-- sums of 0 count nothing
counted_none : (j : ℕ) (counts : ColumnCounts) → counted (no_sums j) counts ≡ counts
counted_none j counts =
    let wide : counts.wide + 0 ≡ counts.wide = omega arith in
    let positive : counts.positive + 0 ≡ counts.positive = omega arith in
    let negative : counts.negative + 0 ≡ counts.negative = omega arith in
    ap (λ (n : ℕ). counts_with n (counts.positive + 0) (counts.negative + 0)) wide
    ∙ ap (λ (n : ℕ). counts_with counts.wide n (counts.negative + 0)) positive
    ∙ ap (λ (n : ℕ). counts_with counts.wide counts.positive n) negative

module _ (old now : List ColumnCounts) (sums : List ColumnSums) (k : ℕ) (d : ColumnSums) (h : AreCountedIn old (take k sums) now) (listed : AreListed (length old) sums) (under : k < length sums) where
  abbrev own : ColumnSums
  own = get_or sums k d

  inside : own.column < length old
  inside = listed.within k d under

  free : IsFree (take k sums) own.column
  free = free_front (length old) sums k listed under d

  -- the column of the next sums wasn't counted yet
  pub counted_here : counts_of now own.column ≡ counts_of old own.column
  counted_here =
      h.each own.column inside
      ∙ ap (λ (o : ColumnSums). counted o (counts_of old own.column)) (sums_free (take k sums) own.column free)
      ∙ counted_none own.column (counts_of old own.column)

  abbrev Few : ColumnCounts → Type 0
  Few counts = (counts.wide < 2 ^ 33) × (counts.positive < 2 ^ 33) × (counts.negative < 2 ^ 33)

  pub counted_few : All Few old → Few (counts_of now own.column)
  counted_few few = subst Few (sym counted_here) (few own.column record { wide = 0; positive = 0; negative = 0 } inside)

  more_is : take (k + 1) sums ≡ take k sums ++ own ∷ []
  more_is = let next : k + 1 ≡ suc k = omega arith in ap (λ (n : ℕ). take n sums) next ∙ take-suc sums k d under

  pub counted_more : (counts : ColumnCounts) → counts ≡ counted own (counts_of now own.column) → AreCountedIn old (take (k + 1) sums) (set now own.column counts)
  counted_more counts is =
      let size = h.size in
      record {
        size = length-set now own.column counts ∙ size;
        each = λ j below. elim (cases_eq j own.column) [
          | inl same ↦
              let there : sums_in (take (k + 1) sums) j ≡ own = ap (λ (l : List ColumnSums). sums_in l j) more_is ∙ pushed_same (take k sums) own j (sym same) (subst (IsFree (take k sums)) (sym same) free) in
              let old_is : counts_of now own.column ≡ counts_of old j = counted_here ∙ ap (counts_of old) (sym same) in
              ap (counts_of (set now own.column counts)) same
              ∙ get_or-set_same now own.column counts record { wide = 0; positive = 0; negative = 0 } (omega arith)
              ∙ is ∙ ap (counted own) old_is ∙ ap (λ (o : ColumnSums). counted o (counts_of old j)) (sym there)
          | inr other ↦
              let there : sums_in (take (k + 1) sums) j ≡ sums_in (take k sums) j = ap (λ (l : List ColumnSums). sums_in l j) more_is ∙ pushed_other (take k sums) own j (λ same. other (sym same)) in
              get_or-set_other now own.column j counts record { wide = 0; positive = 0; negative = 0 } other
              ∙ h.each j below ∙ ap (λ (o : ColumnSums). counted o (counts_of old j)) (sym there)
        ];
      }

-- one row less
module _ (now counts : List ColumnCounts) (sums : List ColumnSums) (k : ℕ) (d : ColumnSums) (h : AreCountedIn now (take k sums) counts) (listed : AreListed (length counts) sums) (under : k < length sums) where
  abbrev gone : ColumnSums
  gone = get_or sums k d

  there : gone.column < length counts
  there = listed.within k d under

  unseen : IsFree (take k sums) gone.column
  unseen = free_front (length counts) sums k listed under d

  -- the column of the next sums still has its counts
  same_yet : counts_of now gone.column ≡ counts_of counts gone.column
  same_yet =
      let size = h.size in
      sym (h.each gone.column (omega (arith, there))
      ∙ ap (λ (o : ColumnSums). counted o (counts_of now gone.column)) (sums_free (take k sums) gone.column unseen)
      ∙ counted_none gone.column (counts_of now gone.column))

  pub included_here : AreIncluded sums counts → IsIncluded gone (counts_of now gone.column)
  included_here all =
      let own : sums_in sums gone.column ≡ gone = listed_in (length counts) sums k listed under d in
      subst (IsIncluded gone) (sym same_yet) (subst (λ (o : ColumnSums). IsIncluded o (counts_of counts gone.column)) own (all gone.column there))

  front_is : take (k + 1) sums ≡ take k sums ++ gone ∷ []
  front_is = let next : k + 1 ≡ suc k = omega arith in ap (λ (n : ℕ). take n sums) next ∙ take-suc sums k d under

  pub counted_less : (left : ColumnCounts) → counted gone left ≡ counts_of now gone.column → AreCountedIn (set now gone.column left) (take (k + 1) sums) counts
  counted_less left is =
      let size = h.size in
      let kept = length-set now gone.column left in
      record {
        size = size ∙ sym kept;
        each = λ j below. elim (cases_eq j gone.column) [
          | inl same ↦
              let own : sums_in (take (k + 1) sums) j ≡ gone = ap (λ (l : List ColumnSums). sums_in l j) front_is ∙ pushed_same (take k sums) gone j (sym same) (subst (IsFree (take k sums)) (sym same) unseen) in
              let here : counts_of (set now gone.column left) j ≡ left = ap (counts_of (set now gone.column left)) same ∙ get_or-set_same now gone.column left record { wide = 0; positive = 0; negative = 0 } (omega (arith, there)) in
              ap (counts_of counts) same ∙ sym same_yet ∙ sym is
              ∙ ap (counted gone) (sym here) ∙ ap (λ (o : ColumnSums). counted o (counts_of (set now gone.column left) j)) (sym own)
          | inr other ↦
              let own : sums_in (take (k + 1) sums) j ≡ sums_in (take k sums) j = ap (λ (l : List ColumnSums). sums_in l j) front_is ∙ pushed_other (take k sums) gone j (λ same. other (sym same)) in
              let here : counts_of (set now gone.column left) j ≡ counts_of now j = get_or-set_other now gone.column j left record { wide = 0; positive = 0; negative = 0 } other in
              h.each j (omega (arith, below, kept)) ∙ ap (counted (sums_in (take k sums) j)) (sym here) ∙ ap (λ (o : ColumnSums). counted o (counts_of (set now gone.column left) j)) (sym own)
        ];
      }

one_more : (p : List ColumnSums → Bool) (carried : List (List ColumnSums)) (n : ℕ) → n < length carried → count_by p (take (n + 1) carried) ≡ count_by p (take n carried) + cond (p (list_of carried n)) 1 0
one_more p carried n under = sum_by_more (λ sums. cond {A = ℕ} (p sums) 1 0) carried n [] under

few_of : (p : List ColumnSums → Bool) (carried : List (List ColumnSums)) (n : ℕ) → count_by p (take n carried) ≤ length carried
few_of p carried n =
    let front = sum_by-take-le (λ sums. cond {A = ℕ} (p sums) 1 0) carried n in
    let all = count_by-le-length p carried in
    omega arith

module _ (carried : List (List ColumnSums)) (n width : ℕ) (counts : List ColumnCounts) (h : AreCounted carried n width counts) where
  -- the counts of one more row
  pub row_counted : (new : List ColumnCounts) → n < length carried → AreCountedIn counts (list_of carried n) new → AreCounted carried (n + 1) width new
  row_counted new under row =
      let size = h.size in
      record {
        size = row.size ∙ size;
        wide = λ j below. ap (λ (c : ColumnCounts). c.wide) (row.each j (omega arith)) ∙ ap (λ (x : ℕ). x + cond (is_wide (sums_in (list_of carried n) j)) 1 0) (h.wide j below) ∙ sym (one_more (λ sums. is_wide (sums_in sums j)) carried n under);
        positive = λ j below. ap (λ (c : ColumnCounts). c.positive) (row.each j (omega arith)) ∙ ap (λ (x : ℕ). x + cond (is_above (sums_in (list_of carried n) j)) 1 0) (h.positive j below) ∙ sym (one_more (λ sums. is_above (sums_in sums j)) carried n under);
        negative = λ j below. ap (λ (c : ColumnCounts). c.negative) (row.each j (omega arith)) ∙ ap (λ (x : ℕ). x + cond (is_below (sums_in (list_of carried n) j)) 1 0) (h.negative j below) ∙ sym (one_more (λ sums. is_below (sums_in sums j)) carried n under);
      }

  pub counts_few : length carried < 2 ^ 33 → All (λ c. (c.wide < 2 ^ 33) × (c.positive < 2 ^ 33) × (c.negative < 2 ^ 33)) counts
  counts_few few k d under =
      let size = h.size in
      let wide = h.wide k (omega arith) in
      let positive = h.positive k (omega arith) in
      let negative = h.negative k (omega arith) in
      let w = few_of (λ sums. is_wide (sums_in sums k)) carried n in
      let p = few_of (λ sums. is_above (sums_in sums k)) carried n in
      let m = few_of (λ sums. is_below (sums_in sums k)) carried n in
      subst (λ (c : ColumnCounts). (c.wide < 2 ^ 33) × (c.positive < 2 ^ 33) × (c.negative < 2 ^ 33)) (get_or_default counts k record { wide = 0; positive = 0; negative = 0 } d under) (omega arith, omega arith, omega arith)
