-- The numbers of the rows of a sign, in ascending order.
use Rattle.std.specs.Prelude.{◌≡◌, ℕ, ◌<◌, nat_lt, Bool, true, List, length, slice_index, slice_index_or, All, AllPairs}
use Rattle.semiflow_elim.specs.Candidates.{sums_of}
use Rattle.semiflow_elim.specs.declared.signs.RowSums.{RowSums}

-- the numbers below n at which a test holds
pub record AreNumbers (test : ℕ → Bool) (n : ℕ) (numbers : List ℕ) : Type 0 where
  pub ascending : AllPairs (λ a b. a < b) numbers
  pub within : All (λ a. a < n) numbers
  pub holds : All (λ a. test a ≡ true) numbers
  pub complete : (a : ℕ) → a < n → test a ≡ true → (q : ℕ) × (q < length numbers) × (slice_index numbers q ≡ a)

-- the next of these numbers, n at the end
abbrev pub next_of : List ℕ → ℕ → ℕ → ℕ
next_of numbers n p = slice_index_or numbers p n

-- the signs of a row by its sums
abbrev pub gains_at : List RowSums → ℕ → Bool
gains_at sums a = nat_lt (sums_of sums a).loss (sums_of sums a).gain

abbrev pub loses_at : List RowSums → ℕ → Bool
loses_at sums a = nat_lt (sums_of sums a).gain (sums_of sums a).loss
