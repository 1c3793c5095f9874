-- What the parts of a bound certificate are while it is made.
use Rattle.std.specs.Prelude.{◌≡◌, ◌^◌, ℕ, ◌<◌, Bool, IsTrue, List, [], length, slice_index, slice_index_or}
use Rattle.net_values.specs.Net.{Net}
use Rattle.net_values.specs.Vectors.{IsVector}
use Rattle.cert_make.specs.BoundCertificates.{number_of, IsFirstWide}
use Rattle.cert_make.specs.declared.fault.BoundCertFault.{BoundCertFault}
use Rattle.cert_make.specs.declared.fault.BoundCertFault.TheVariants.{NoMemory, WideCheck}

-- the numbers of the first n rows
pub record AreNumbers (rows : List (List ℕ)) (named : ℕ → Bool) (n : ℕ) (numbers : List ℕ) : Type 0 where
  pub count : length numbers ≡ n
  pub each : (k : ℕ) → k < n → slice_index numbers k ≡ number_of rows named k

-- no number exceeds 2^32 - 1
abbrev pub FitNumbers : List (List ℕ) → (ℕ → Bool) → Type 0
FitNumbers rows named = (k : ℕ) → number_of rows named k < 2 ^ 32

-- the named ones of the first n rows are vectors
abbrev pub AreVectors : List (List ℕ) → (ℕ → Bool) → ℕ → Type 0
AreVectors rows named n = (k : ℕ) → k < n → IsTrue (named k) → IsVector (slice_index_or rows k [])

-- out of memory may come at any time, a wide check only at the first wide column of this row
abbrev pub FailsAt : Net → (ℕ → ℕ) → ℕ → BoundCertFault → Type 0
FailsAt net y row NoMemory = Unit {0}
FailsAt net y row (WideCheck at column) = (at ≡ row) × IsFirstWide net y column
