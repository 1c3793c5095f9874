-- Sets of places, as the lists of truth values that tell for each place whether it is in.
use Rattle.std.specs.Prelude.{◌≡◌, ◌⊎◌, ◌<◌, ◌≤◌, ℕ, zero, suc, ◌+◌, List, [], ◌∷◌, Bool, true, false, IsTrue, map, not, length, slice_index_or}

-- the place is in the set; a place past its size isn't
abbrev pub has : List Bool → ℕ → Bool
has set p = slice_index_or set p false

-- no place is in the set
abbrev pub IsEmpty : List Bool → Type 0
IsEmpty set = (p : ℕ) → has set p ≡ false

-- each place of the first set is in the second
abbrev pub IsSubset : List Bool → List Bool → Type 0
IsSubset set other = (p : ℕ) → IsTrue (has set p) → IsTrue (has other p)

-- each place of the first set is in one of the two others
abbrev pub IsWithinEither : List Bool → List Bool → List Bool → Type 0
IsWithinEither set first second = (p : ℕ) → IsTrue (has set p) → (IsTrue (has first p)) ⊎ (IsTrue (has second p))

-- the set of the places that are not in this one
abbrev pub complement : List Bool → List Bool
complement set = map not set

-- no place from this one on is in the set
abbrev pub HasNoneFrom : List Bool → ℕ → Type 0
HasNoneFrom set from = (p : ℕ) → from ≤ p → has set p ≡ false

-- the lowest place of the set that isn't below another
pub record IsFirstFrom (set : List Bool) (from p : ℕ) : Type 0 where
  pub below_size : p < length set
  pub not_before : from ≤ p
  pub member : IsTrue (has set p)
  pub first : (q : ℕ) → from ≤ q → q < p → has set q ≡ false

-- how many places below this one are in the set
abbrev pub members_below : List Bool → ℕ → ℕ
members_below [] p = 0
members_below (b ∷ set) zero = 0
members_below (true ∷ set) (suc p) = 1 + members_below set p
members_below (false ∷ set) (suc p) = members_below set p
