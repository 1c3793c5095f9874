-- The counts of the columns as rows come and go: they are counts over the rows that are there.
use Rattle.std.proofs.Common.{◌≡◌, sym, ap, ◌∙◌, subst, ℕ, ◌+◌, ◌-◌, ◌<◌, ◌≤◌, Bool, cond, List, [], ◌++◌, length, get_or, take, All, inl, inr, arith}
use Rattle.std.specs.Prelude.{count_by}
use Rattle.std.proofs.lemmas.Bool.{cases_eq}
use Rattle.std.proofs.lemmas.List.{take_all}
use Rattle.std.proofs.lemmas.List.Sums.{get_or-le-sum_by}
use Rattle.std.proofs.Math.Seq.{take-append_seam}
use Rattle.semiflow_elim.specs.Carried.{sums_in, AreListed, list_of}
use Rattle.semiflow_elim.specs.Counts.{counts_of, AreCountedIn, AreCounted, AreIncluded, IsUncounted, is_wide, is_above, is_below}
use Rattle.semiflow_elim.specs.Kept.{IsDropped}
use Rattle.semiflow_elim.specs.declared.carried.ColumnSums.{ColumnSums}
use Rattle.semiflow_elim.specs.declared.counts.ColumnCounts.{ColumnCounts}

-- those that were counted are counted before what is added
pub counted_front : (carried more : List (List ColumnSums)) (width : ℕ) (counts : List ColumnCounts) → AreCounted carried (length carried) width counts → AreCounted (carried ++ more) (length carried) width counts
counted_front carried more width counts h =
    let same : take (length carried) carried ≡ take (length carried) (carried ++ more) = take_all (length carried) carried (omega arith) ∙ sym (take-append_seam carried more) in
    record {
      size = h.size;
      wide = λ j below. h.wide j below ∙ ap (count_by (λ sums. is_wide (sums_in sums j))) same;
      positive = λ j below. h.positive j below ∙ ap (count_by (λ sums. is_above (sums_in sums j))) same;
      negative = λ j below. h.negative j below ∙ ap (count_by (λ sums. is_below (sums_in sums j))) same;
    }

one_counted : (p : List ColumnSums → Bool) (carried : List (List ColumnSums)) (count k : ℕ) → count ≡ count_by p (take (length carried) carried) → k < length carried → cond {A = ℕ} (p (list_of carried k)) 1 0 ≤ count
one_counted p carried count k is under =
    let all = ap (count_by p) (take_all (length carried) carried (omega arith)) in
    let least = get_or-le-sum_by (λ sums. cond {A = ℕ} (p sums) 1 0) carried k [] under in
    omega arith

-- a row is one of those that were counted
pub included_row : (carried : List (List ColumnSums)) (width : ℕ) (counts : List ColumnCounts) (k : ℕ) → AreCounted carried (length carried) width counts → k < length carried → AreIncluded (list_of carried k) counts
included_row carried width counts k h under j below =
    let size = h.size in
    record {
      wide = one_counted (λ sums. is_wide (sums_in sums j)) carried (counts_of counts j).wide k (h.wide j (omega arith)) under;
      positive = one_counted (λ sums. is_above (sums_in sums j)) carried (counts_of counts j).positive k (h.positive j (omega arith)) under;
      negative = one_counted (λ sums. is_below (sums_in sums j)) carried (counts_of counts j).negative k (h.negative j (omega arith)) under;
    }

one_gone : (p : List ColumnSums → Bool) (carried new : List (List ColumnSums)) (sums : List ColumnSums) (count left : ℕ) → count ≡ count_by p (take (length carried) carried) → IsUncounted carried new sums → count ≡ left + cond {A = ℕ} (p sums) 1 0 → left ≡ count_by p (take (length new) new)
one_gone p carried new sums count left is gone less =
    let all = ap (count_by p) (take_all (length carried) carried (omega arith)) in
    let rest = ap (count_by p) (take_all (length new) new (omega arith)) in
    let falls = gone p in
    omega arith

-- one row goes
pub row_uncounted : (carried new : List (List ColumnSums)) (sums : List ColumnSums) (width : ℕ) (counts left : List ColumnCounts) → AreCounted carried (length carried) width counts → IsUncounted carried new sums → AreCountedIn left sums counts → AreCounted new (length new) width left
row_uncounted carried new sums width counts left h gone row =
    let size = h.size in
    let same = row.size in
    record {
      size = omega arith;
      wide = λ j below. one_gone (λ s. is_wide (sums_in s j)) carried new sums (counts_of counts j).wide (counts_of left j).wide (h.wide j below) gone (ap (λ (c : ColumnCounts). c.wide) (row.each j (omega arith)));
      positive = λ j below. one_gone (λ s. is_above (sums_in s j)) carried new sums (counts_of counts j).positive (counts_of left j).positive (h.positive j below) gone (ap (λ (c : ColumnCounts). c.positive) (row.each j (omega arith)));
      negative = λ j below. one_gone (λ s. is_below (sums_in s j)) carried new sums (counts_of counts j).negative (counts_of left j).negative (h.negative j below) gone (ap (λ (c : ColumnCounts). c.negative) (row.each j (omega arith)));
    }

-- those that are left keep their order
pub listed_dropped : (width : ℕ) (old new : List (List ColumnSums)) (i : ℕ) → All (AreListed width) old → IsDropped old new i → All (AreListed width) new
listed_dropped width old new i h dropped k d under =
    let size = dropped.size in
    elim (cases_eq k i) [
      | inl same ↦ subst (AreListed width) (sym (ap (λ (n : ℕ). get_or new n d) same ∙ dropped.here d (omega arith))) (h (length old - 1) d (omega arith))
      | inr other ↦ subst (AreListed width) (sym (dropped.others k d other (omega arith))) (h k d (omega arith))
    ]
