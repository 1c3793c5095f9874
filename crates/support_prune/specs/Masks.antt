-- The mask of a vector: its support folded into 128 bits. Where a support is a subset of another, the first
-- mask has no bit that the second lacks.
use Rattle.std.specs.Prelude.{ℕ, zero, suc, ◌%◌, ◌^◌, nat_lt, if◌then◌else◌, bit_or, List, length, map, slice_index}

-- the bits at the positions, modulo 128, of the positive ones among the first n entries
abbrev pub mask_below : List ℕ → ℕ → ℕ
mask_below row zero = 0
mask_below row (suc n) = if nat_lt 0 (slice_index row n) then bit_or (mask_below row n) (2 ^ (n % 128)) else mask_below row n

abbrev pub mask_of : List ℕ → ℕ
mask_of row = mask_below row (length row)

-- the masks of rows
abbrev pub masks_of : List (List ℕ) → List ℕ
masks_of rows = map mask_of rows
