-- Sparse tables of natural numbers: per column the list of its entries, each a row with an amount.
use Rattle.std.specs.Prelude.{◌≡◌, ℕ, ◌+◌, ◌*◌, ◌^◌, ◌<◌, ◌≤◌, ◌==◌, if◌then◌else◌, List, [], length, All, sum_by, slice_index_or}
use Rattle.net_values.specs.declared.limits.TheConstants.{MAX_ENTRIES}
use Rattle.incidence.specs.declared.sparse.Amount.{Amount}
use Rattle.incidence.specs.Matrix.{Matrix}

-- the number of rows, and the entries of each column
pub record Table : Type 0 where
  pub height : ℕ
  pub lists : List (List Amount)

-- the amount of an entry where it occurs at the row, else 0
abbrev pub part_at : ℕ → Amount → ℕ
part_at i entry = if entry.row == i then entry.amount else 0

-- the amount at a row: what the entries give it together
abbrev pub amount_at : List Amount → ℕ → ℕ
amount_at entries i = sum_by (part_at i) entries

-- the entries of a column; one past the last has none
abbrev pub column_at : Table → ℕ → List Amount
column_at table j = slice_index_or table.lists j []

-- the amount at a row and a column
abbrev pub at : Table → ℕ → ℕ → ℕ
at table i j = amount_at (column_at table j) i

-- each entry occurs at a row of the table, and no amount exceeds 2^127 - 1
pub record IsTable (table : Table) : Type 0 where
  pub within : (j : ℕ) → All (λ entry. entry.row < table.height) (column_at table j)
  pub narrow : (i j : ℕ) → at table i j < 2 ^ 127

-- this much is added at one row and column, and all else stays
pub record AddsAt (old new : Table) (i j amount : ℕ) : Type 0 where
  pub height : new.height ≡ old.height
  pub width : length new.lists ≡ length old.lists
  pub here : at new i j ≡ at old i j + amount
  pub others : (k l : ℕ) → (k ≡ i → l ≡ j → ⊥) → at new k l ≡ at old k l

-- the table of the positive entries and the table of the negated negative ones
pub record Tables : Type 0 where
  pub gains : Table
  pub losses : Table

abbrev pub matrix_of : Tables → Matrix
matrix_of tables = record {
  rows = tables.gains.height;
  columns = length tables.gains.lists;
  gain = at tables.gains;
  loss = at tables.losses;
}

-- both tables have the same size, within the limits, and no entry is both positive and negative
pub record IsIncidence (tables : Tables) : Type 0 where
  pub height : tables.losses.height ≡ tables.gains.height
  pub width : length tables.losses.lists ≡ length tables.gains.lists
  pub rows : tables.gains.height ≤ MAX_ENTRIES
  pub columns : length tables.gains.lists ≤ MAX_ENTRIES
  pub apart : (i j : ℕ) → at tables.gains i j * at tables.losses i j ≡ 0

-- the amounts of a column's entries are added at a row, each at the column that its entry names
pub record AddsRow (old new : Table) (i : ℕ) (entries : List Amount) : Type 0 where
  pub height : new.height ≡ old.height
  pub width : length new.lists ≡ length old.lists
  pub here : (j : ℕ) → at new i j ≡ at old i j + amount_at entries j
  pub others : (k j : ℕ) → (k ≡ i → ⊥) → at new k j ≡ at old k j

-- rows and columns are exchanged
pub record IsTurned (old new : Table) : Type 0 where
  pub height : new.height ≡ length old.lists
  pub width : length new.lists ≡ old.height
  pub exchanged : (i j : ℕ) → at new j i ≡ at old i j
