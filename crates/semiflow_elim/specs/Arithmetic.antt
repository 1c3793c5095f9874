-- Arithmetic on the entries of rows.
use Rattle.std.specs.Prelude.{◌≡◌, ℕ, ◌+◌, ◌*◌, ◌^◌, ◌<◌, ◌≤◌, nat_lt, Bool, List, length, slice_index}
use Rattle.std.specs.Int.{◌∣◌}
use Rattle.net_values.specs.PlaceSets.{has}
use Rattle.net_values.specs.Vectors.{AreZerosFrom}

-- the first n entries of p are those of x * r + y * s, and none exceeds 2^127 - 1
pub record IsScaledSum (x : ℕ) (r : List ℕ) (y : ℕ) (s : List ℕ) (n : ℕ) (p : List ℕ) : Type 0 where
  pub size : length p ≡ n
  pub entries : (i : ℕ) → i < n → slice_index p i ≡ x * slice_index r i + y * slice_index s i
  pub narrow : (i : ℕ) → i < n → slice_index p i < 2 ^ 127

-- some entry of x * r + y * s exceeds 2^127 - 1
pub record HasWideEntry (x : ℕ) (r : List ℕ) (y : ℕ) (s : List ℕ) : Type 0 where
  pub at : ℕ
  pub within : at < length r
  pub wide : 2 ^ 127 ≤ x * slice_index r at + y * slice_index s at

-- the greatest common divisor of the first n entries
pub record IsGcdOfAll (entries : List ℕ) (n divisor : ℕ) : Type 0 where
  pub divides : (i : ℕ) → i < n → divisor ∣ slice_index entries i
  pub greatest : (d : ℕ) → ((i : ℕ) → i < n → d ∣ slice_index entries i) → d ∣ divisor

-- the positions at which one of two rows is positive
pub record IsUnionOf (r s : List ℕ) (either : List Bool) : Type 0 where
  pub size : length either ≡ length r
  pub members : (i : ℕ) → has either i ≡ nat_lt 0 (slice_index r i + slice_index s i)

-- the sums x * r + y * s below a position, and zeros from there on
pub record IsSummed (x : ℕ) (r : List ℕ) (y : ℕ) (s : List ℕ) (from : ℕ) (sum : List ℕ) : Type 0 where
  pub size : length sum ≡ length r
  pub before : (i : ℕ) → i < from → slice_index sum i ≡ x * slice_index r i + y * slice_index s i
  pub after : AreZerosFrom sum from
  pub narrow : (i : ℕ) → slice_index sum i < 2 ^ 127
