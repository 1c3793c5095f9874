-- The columns of a matrix may occur in any order: the sums of a vector at a column depend on the column's
-- entries only, so matrices with the same columns have the same semiflows over all columns, and the same
-- of minimal support.
use Rattle.std.proofs.Common.{◌≡◌, sym, ap, ◌∙◌, ℕ, ◌*◌, ◌<◌, List, slice_index, arith}
use Rattle.std.specs.Cmp.Lexicographic.{slice_cmp}
use Rattle.std.specs.Ordering.{nat_cmp}
use Rattle.std.proofs.lemmas.Cmp.{nat_cmp_total, lists_total}
use Rattle.net_values.specs.TheList.{IsTheList}
use Rattle.net_values.proofs.OneList.{the_lists_same}
use Rattle.incidence.specs.Sums.{sum_below}
use Rattle.incidence.specs.Matrix.{Matrix, positive_at, negative_at}
use Rattle.incidence.specs.Semiflow.{IsSemiflow, IsMinimal, all_columns}
use Rattle.semiflow_elim.specs.Bases.{IsMinimalRow}
use Rattle.semiflow_elim.specs.Laws.{HaveSameColumns}
use Rattle.incidence.proofs.Below.{below_same}

-- the weighted sums of two columns with the same entries
weighted_same : (n k : ℕ) (y f g : ℕ → ℕ) → n ≡ k → ((i : ℕ) → i < n → f i ≡ g i) → sum_below n (λ i. y i * f i) ≡ sum_below k (λ i. y i * g i)
weighted_same n k y f g size each =
    below_same n (λ i. y i * f i) (λ i. y i * g i) (λ i under. ap (λ z. y i * z) (each i under))
    ∙ ap (λ (r : ℕ). sum_below r (λ i. y i * g i)) size

turned : (m n : Matrix) → HaveSameColumns m n → HaveSameColumns n m
turned m n h = record { rows = sym h.rows; forth = h.back; back = h.forth }

semiflow_moved : (m n : Matrix) → HaveSameColumns m n → (y : ℕ → ℕ) → IsSemiflow n all_columns y → IsSemiflow m all_columns y
semiflow_moved m n h y flow = record {
  nonzero = let some = flow.nonzero in let rows = h.rows in (some.0, omega (arith, rows, some.1), some.2);
  balanced = λ j under all.
      let column = h.forth j under in
      weighted_same m.rows n.rows y (λ i. positive_at m i j) (λ i. positive_at n i column.0) h.rows (λ i below. let same = column.2 i below in omega (arith, same.0, same.1))
      ∙ flow.balanced column.0 column.1 all
      ∙ sym (weighted_same m.rows n.rows y (λ i. negative_at m i j) (λ i. negative_at n i column.0) h.rows (λ i below. let same = column.2 i below in omega (arith, same.0, same.1)));
}

minimal_moved : (m n : Matrix) → HaveSameColumns m n → (y : ℕ → ℕ) → IsMinimal n all_columns y → IsMinimal m all_columns y
minimal_moved m n h y minimal =
    let rows = h.rows in
    record {
      semiflow = semiflow_moved m n h y minimal.semiflow;
      coprime = λ d each. minimal.coprime d (λ i under. each i (omega (arith, rows, under)));
      least = λ z flow within i under some.
          minimal.least z (semiflow_moved n m (turned m n h) z flow) (λ k below. within k (omega (arith, rows, below))) i (omega (arith, rows, under)) some;
    }

row_moved : (m n : Matrix) → HaveSameColumns m n → (row : List ℕ) → IsMinimalRow n all_columns row → IsMinimalRow m all_columns row
row_moved m n h row is = record { size = is.size ∙ sym h.rows; minimal = minimal_moved m n h (slice_index row) is.minimal }

pub order_is_free : (m n : Matrix) (list other : List (List ℕ)) → HaveSameColumns m n → IsTheList (slice_cmp nat_cmp) (IsMinimalRow m all_columns) list → IsTheList (slice_cmp nat_cmp) (IsMinimalRow n all_columns) other → list ≡ other
order_is_free m n list other h first second =
    the_lists_same (slice_cmp nat_cmp) (lists_total nat_cmp_total) (IsMinimalRow m all_columns) (IsMinimalRow n all_columns) list other
    (λ row. row_moved n m (turned m n h) row) (λ row. row_moved m n h row) first second
