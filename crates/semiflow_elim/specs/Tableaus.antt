-- A tableau: a matrix, the set of its columns that were taken, and the rows over them.
use Rattle.std.specs.Prelude.{◌≡◌, ℕ, ◌^◌, ◌<◌, ◌≤◌, Bool, List, length, count_by}
use Rattle.net_values.specs.declared.limits.TheConstants.{MAX_ENTRIES}
use Rattle.incidence.specs.Tables.{Tables, matrix_of}
use Rattle.semiflow_elim.specs.Bases.{IsBasis, in_set}
use Rattle.semiflow_elim.specs.Carried.{CarryTheirs}
use Rattle.semiflow_elim.specs.Counts.{AreCounted}
use Rattle.semiflow_elim.specs.declared.carried.ColumnSums.{ColumnSums}
use Rattle.semiflow_elim.specs.declared.counts.ColumnCounts.{ColumnCounts}

pub record TableauValue : Type 0 where
  pub tables : Tables
  pub taken : List Bool
  pub rows : List (List ℕ)

-- the number of columns in a set
abbrev pub size_of : List Bool → ℕ
size_of taken = count_by (λ member. member) taken

-- the rows are a basis of the semiflows over the columns that were taken, which are this many, and carry their sums
-- at the others, which are counted
pub record IsTableau (t : TableauValue) (done : ℕ) (carried : List (List ColumnSums)) (counts : List ColumnCounts) : Type 0 where
  pub columns : length t.taken ≡ (matrix_of t.tables).columns
  pub count : done ≡ size_of t.taken
  pub basis : IsBasis (matrix_of t.tables) (in_set t.taken) t.rows
  pub sums : CarryTheirs (matrix_of t.tables) (in_set t.taken) t.rows carried
  pub counted : AreCounted carried (length carried) (matrix_of t.tables).columns counts
  pub short : (matrix_of t.tables).columns ≤ MAX_ENTRIES
  pub few : length t.rows < 2 ^ 32
