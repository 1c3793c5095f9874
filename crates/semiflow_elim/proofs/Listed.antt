-- A set that has all columns is all columns; and sorted rows have the members of the unsorted ones, each
-- before the later ones, since no two are equal.
use Rattle.std.proofs.Common.{◌↔◌, ℕ, ◌<◌, List, Contains}
use Rattle.std.specs.List.Sorted.{IsPermutation}
use Rattle.std.specs.Cmp.Lexicographic.{slice_cmp}
use Rattle.std.specs.Ordering.{nat_cmp}
use Rattle.net_values.specs.TheList.{AreApart, IsStrictlyAscending, IsTheList}
use Rattle.net_values.proofs.SortedLists.{the_list_from_sort}
use Rattle.incidence.specs.Matrix.{Matrix}
use Rattle.incidence.specs.Semiflow.{IsSemiflow, IsMinimal, all_columns}
use Rattle.semiflow_elim.specs.Bases.{AreMinimal, IsMinimalRow}

pub semiflow_along : (m : Matrix) (K K' : ℕ → Type 0) → ((j : ℕ) → j < m.columns → K' j → K j) → (y : ℕ → ℕ) → IsSemiflow m K y → IsSemiflow m K' y
semiflow_along m K K' back y flow = record {
  nonzero = flow.nonzero;
  balanced = λ j p k. flow.balanced j p (back j p k);
}

minimal_along : (m : Matrix) (K K' : ℕ → Type 0) → ((j : ℕ) → j < m.columns → K j → K' j) → ((j : ℕ) → j < m.columns → K' j → K j) → (y : ℕ → ℕ) → IsMinimal m K y → IsMinimal m K' y
minimal_along m K K' forth back y h = record {
  semiflow = semiflow_along m K K' back y h.semiflow;
  coprime = h.coprime;
  least = λ z flow within. h.least z (semiflow_along m K' K forth z flow) within;
}

pub listed : (m : Matrix) (K : ℕ → Type 0) (rows : List (List ℕ)) → ((j : ℕ) → j < m.columns → K j) → AreMinimal m K rows → (x : List ℕ) → (Contains rows x) ↔ IsMinimalRow m all_columns x
listed m K rows all h x = (
  λ here.
      let row = (h.members x).0 here in
      record { size = row.size; minimal = minimal_along m K all_columns (λ j p k. tt) (λ j p k. all j p) _ row.minimal },
  λ row. (h.members x).1 record { size = row.size; minimal = minimal_along m all_columns K (λ j p k. all j p) (λ j p k. tt) _ row.minimal },
)

-- sorted, they are the list of these semiflows
pub sorted_list : (m : Matrix) (K : ℕ → Type 0) (rows list : List (List ℕ)) → ((j : ℕ) → j < m.columns → K j) → AreMinimal m K rows → IsPermutation rows list → (AreApart rows → IsStrictlyAscending (slice_cmp nat_cmp) list) → IsTheList (slice_cmp nat_cmp) (IsMinimalRow m all_columns) list
sorted_list m K rows list all h moved strict =
    the_list_from_sort (slice_cmp nat_cmp) (IsMinimalRow m all_columns) rows list (listed m K rows all h) moved (strict record { apart = h.once })
