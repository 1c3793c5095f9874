-- The column of a step, looked for in order.
use Rattle.std.specs.Prelude.{◌≡◌, ℕ, ◌<◌, ◌≤◌, Bool, false, ⊤, List, Option, None, Some, length}
use Rattle.net_values.specs.PlaceSets.{has}
use Rattle.semiflow_elim.specs.Counts.{counts_of}
use Rattle.semiflow_elim.specs.declared.choice.Choice.{Choice}
use Rattle.semiflow_elim.specs.declared.counts.ColumnCounts.{ColumnCounts}

-- of the first n columns outside the set, the one with the fewest candidates is this one, the lowest of these;
-- `count_at` gives the count of each
pub record IsFewest (taken : List Bool) (count_at : ℕ → ℕ) (n : ℕ) (choice : Choice) : Type 0 where
  pub within : choice.column < n
  pub outside : has taken choice.column ≡ false
  pub count : choice.count ≡ count_at choice.column
  pub fewest : (j : ℕ) → j < n → has taken j ≡ false → choice.count ≤ count_at j
  pub lowest : (j : ℕ) → j < choice.column → has taken j ≡ false → choice.count < count_at j

-- or there is none outside
abbrev pub IsBest : List Bool → (ℕ → ℕ) → ℕ → Option Choice → Type 0
IsBest taken count_at n None = (j : ℕ) → j < n → has taken j ≡ false → ⊥
IsBest taken count_at n (Some choice) = IsFewest taken count_at n choice

-- it has more candidates than this, or there is none
abbrev pub IsBeaten : Option Choice → ℕ → Type 0
IsBeaten None count = ⊤
IsBeaten (Some choice) count = count < choice.count

-- of the first n columns outside the set none has a wide sum
abbrev pub NoneWide : List Bool → List ColumnCounts → ℕ → Type 0
NoneWide taken counts n = (j : ℕ) → j < n → has taken j ≡ false → (counts_of counts j).wide ≡ 0

-- of the columns outside the set it is the lowest one with a wide sum
pub record IsFirstCounted (taken : List Bool) (counts : List ColumnCounts) (column : ℕ) : Type 0 where
  pub within : column < length counts
  pub outside : has taken column ≡ false
  pub wide : 0 < (counts_of counts column).wide
  pub before : NoneWide taken counts column
