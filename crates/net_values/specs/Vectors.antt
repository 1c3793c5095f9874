-- Vectors of natural numbers, as the lists of their entries.
use Rattle.std.specs.Prelude.{◌≡◌, ℕ, zero, suc, ◌+◌, ◌<◌, ◌≤◌, ◌^◌, min, ℤ, pos, negsuc, nat_lt, Bool, true, false, List, [], ◌∷◌, length, map, slice_index, All, Option, None, Some}
use Rattle.std.specs.Ordering.{nat_cmp, ordering_then}
use Rattle.std.specs.declared.cmp.Ordering.{Ordering}
use Rattle.std.specs.declared.cmp.Ordering.TheVariants.{Greater}
use Rattle.net_values.specs.declared.limits.TheConstants.{MAX_ENTRIES}

-- a whole number where it is positive, else 0
abbrev pub positive_part : ℤ → ℕ
positive_part (pos n) = n
positive_part (negsuc n) = 0

-- the entries of a vector: at most MAX_ENTRIES, each at most 2^127 - 1
pub record IsVector (entries : List ℕ) : Type 0 where
  pub short : length entries ≤ MAX_ENTRIES
  pub narrow : All (λ entry. entry < 2 ^ 127) entries

-- the positions with a positive entry, as a set of places
abbrev pub support_of : List ℕ → List Bool
support_of entries = map (λ entry. nat_lt 0 entry) entries

-- only the positive entries, in order of position
abbrev pub packed : List ℕ → List ℕ
packed [] = []
packed (zero ∷ entries) = packed entries
packed (suc n ∷ entries) = suc n ∷ packed entries

-- all entries, from the set of the positions of the positive ones and these in order: 0 where the set has no place
abbrev pub unpacked : List Bool → List ℕ → List ℕ
unpacked [] numbers = []
unpacked (false ∷ support) numbers = 0 ∷ unpacked support numbers
unpacked (true ∷ support) [] = 0 ∷ unpacked support []
unpacked (true ∷ support) (number ∷ numbers) = number ∷ unpacked support numbers

-- these are the entries of a vector that is kept as its positive entries in order and the set of their positions
pub record IsKept (entries : List ℕ) (support : List Bool) (numbers : List ℕ) : Type 0 where
  pub vector : IsVector entries
  pub positions : support ≡ support_of entries
  pub listed : numbers ≡ packed entries

-- a vector as it is kept, with room for a positive entry at each position
pub record IsPacked (support : List Bool) (numbers : List ℕ) (room : ℕ) : Type 0 where
  pub kept : IsKept (unpacked support numbers) support numbers
  pub enough : length support ≤ room

-- how many of the entries below a position are positive
abbrev pub positives_below : List ℕ → ℕ → ℕ
positives_below [] p = 0
positives_below (entry ∷ entries) zero = 0
positives_below (entry ∷ entries) (suc p) = min 1 entry + positives_below entries p

abbrev pub positive_count : List ℕ → ℕ
positive_count entries = positives_below entries (length entries)

-- the position of positive entry number k in ascending position, counted from 0
pub record IsPositive (entries : List ℕ) (k p : ℕ) : Type 0 where
  pub within : p < length entries
  pub positive : 0 < slice_index entries p
  pub number : positives_below entries p ≡ k

-- no entry from this position on is positive
abbrev pub AreZerosFrom : List ℕ → ℕ → Type 0
AreZerosFrom entries from = (p : ℕ) → from ≤ p → slice_index entries p ≡ 0

-- no entry at a position from the first to below the second is positive; the first isn't above the second
pub record AreZerosBetween (entries : List ℕ) (from to : ℕ) : Type 0 where
  pub order : from ≤ to
  pub zeros : (p : ℕ) → from ≤ p → p < to → slice_index entries p ≡ 0

-- the first positive entry at a position that isn't below another, and its position
pub record IsFirstPositive (entries : List ℕ) (from p entry : ℕ) : Type 0 where
  pub within : p < length entries
  pub zeros : AreZerosBetween entries from p
  pub here : entry ≡ slice_index entries p
  pub positive : 0 < entry
  pub narrow : entry < 2 ^ 127

-- a walk over a vector that is kept so has come to this position, and to the number of this index
pub record IsWalked (support : List Bool) (numbers : List ℕ) (from index : ℕ) : Type 0 where
  pub kept : IsKept (unpacked support numbers) support numbers
  pub passed : index ≡ positives_below (unpacked support numbers) from

-- a walk over the positive entries: all entries, and the position from which on the next one is looked for
pub record WalkValue : Type 0 where
  pub entries : List ℕ
  pub from : ℕ

-- the order of two vectors that are equal before the next positive entry of the first and that of the second, if any,
-- by these: the vector whose one comes earlier is the greater one
abbrev pub next_cmp : ℕ × ℕ → Option (ℕ × ℕ) → Ordering
next_cmp next None = Greater
next_cmp next (Some other) = ordering_then (nat_cmp other.0 next.0) (nat_cmp next.1 other.1)
