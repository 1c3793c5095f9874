-- The support of a vector is the set of its positions with a positive entry (Colom and Silva, "Convex
-- geometry and semiflows in P/T nets", 1991).
use Rattle.std.specs.Prelude.{ℕ, ◌<◌, ◌==◌, ◌||◌, Bool, List, nat_lt, slice_index}
use Rattle.std.specs.List.{list_all, zip}

-- the support of the first vector is a subset of the support of the second; past its end a vector is 0
abbrev pub IsWithin : List ℕ → List ℕ → Type 0
IsWithin row other = (i : ℕ) → 0 < slice_index row i → 0 < slice_index other i

-- the test of two vectors of one length, entry by entry
abbrev pub is_within : List ℕ → List ℕ → Bool
is_within row other = list_all (λ pair. (pair.0 == 0) || nat_lt 0 pair.1) (zip row other)
