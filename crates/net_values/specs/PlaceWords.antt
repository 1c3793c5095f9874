-- Sets of places in words of 64 bits: place p is bit p % 64 of word p / 64.
use Rattle.std.specs.Prelude.{◌≡◌, ℕ, zero, suc, ◌+◌, ◌/◌, ◌%◌, ◌^◌, ◌<◌, ◌≤◌, ◌==◌, List, Bool, true, false, not, length, map, slice_index}
use Rattle.std.specs.Int.{bit_at}
use Rattle.std.specs.List.{range_with_len}
use Rattle.net_values.specs.declared.limits.TheConstants.{MAX_ENTRIES}

-- the place is in the set that the words are
abbrev pub word_has : List ℕ → ℕ → Bool
word_has words p = bit_at (slice_index words (p / 64)) (p % 64) == 1

-- for each place below the size whether it is in
abbrev pub members_of : List ℕ → ℕ → List Bool
members_of words size = map (word_has words) (range_with_len 0 size)

-- the words of a set of this size: no place from the size on is in
pub record AreWords (words : List ℕ) (size : ℕ) : Type 0 where
  pub count : length words ≡ (size + 63) / 64
  pub bound : size ≤ MAX_ENTRIES
  pub narrow : (k : ℕ) → slice_index words k < 2 ^ 64
  pub outside : (p : ℕ) → size ≤ p → word_has words p ≡ false

-- the lowest bit of a word that is 1
pub record IsLowestBit (word bit : ℕ) : Type 0 where
  pub below : bit < 64
  pub here : bit_at word bit ≡ 1
  pub lowest : (i : ℕ) → i < bit → bit_at word i ≡ 0

-- the lowest place that is in only one of two sets; the first has it or hasn't
pub record IsFirstDifference (words others : List ℕ) (p : ℕ) (in_first : Bool) : Type 0 where
  pub first : word_has words p ≡ in_first
  pub second : word_has others p ≡ not in_first
  pub before : (q : ℕ) → q < p → word_has words q ≡ word_has others q

-- of the first n words of the set, each is the complement below the size
pub record AreFlipped (words : List ℕ) (size : ℕ) (others : List ℕ) (n : ℕ) : Type 0 where
  pub count : length others ≡ n
  pub narrow : (k : ℕ) → slice_index others k < 2 ^ 64
  pub flipped : (p : ℕ) → p / 64 < n → p < size → word_has others p ≡ not (word_has words p)
  pub outside : (p : ℕ) → p / 64 < n → size ≤ p → word_has others p ≡ false

-- no place from this one on is in
abbrev pub HasNoPlaceFrom : List ℕ → ℕ → Type 0
HasNoPlaceFrom words from = (p : ℕ) → from ≤ p → word_has words p ≡ false

-- the lowest place that is in and isn't below another
pub record IsFirstPlaceFrom (words : List ℕ) (from p : ℕ) : Type 0 where
  pub not_before : from ≤ p
  pub member : word_has words p ≡ true
  pub first : (q : ℕ) → from ≤ q → q < p → word_has words q ≡ false

-- 1 for what passes a test, and 0 for what doesn't
abbrev pub one_if : Bool → ℕ
one_if true = 1
one_if false = 0

-- how many numbers below this one pass a test
abbrev pub count_under : (ℕ → Bool) → ℕ → ℕ
count_under test zero = 0
count_under test (suc n) = count_under test n + one_if (test n)

-- whether a word has the bit of this number
abbrev pub has_bit_at : ℕ → ℕ → Bool
has_bit_at word i = bit_at word i == 1
