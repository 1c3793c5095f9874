-- The certificate of the least bounds of a net. Its flows are the rows that the bounds name, in their order, and
-- its claims are the bounded places in theirs.
use Rattle.std.specs.Prelude.{ℕ, zero, suc, ◌+◌, ◌<◌, ◌==◌, ℤ, pos, nat_lt, Bool, false, IsTrue, if◌then◌else◌, Option, None, Some, List, [], ◌∷◌, ◌++◌, length, slice_index_or}
use Rattle.net_values.specs.Net.{Net}
use Rattle.closed_sets.specs.ClosedSets.{any_below}
use Rattle.incidence.specs.Matrix.{AreNarrow, incidence_of}
use Rattle.bounds.specs.declared.place_bound.PlaceBound.{PlaceBound}
use Rattle.bounds.specs.Listed.{kept_at, row_at, told}
use Rattle.certificates.specs.declared.certificate.Certificate.{Certificate}
use Rattle.certificates.specs.declared.certificate.Certificate.TheVariants.{Bounds}
use Rattle.certificates.specs.declared.certificate.Claim.{Claim}
use Rattle.cert_make.specs.declared.fault.BoundCertFault.{BoundCertFault}
use Rattle.cert_make.specs.declared.fault.BoundCertFault.TheVariants.{NoMemory, WideCheck}

-- a bound is by row k
abbrev pub names : Option (ℤ × ℕ) → ℕ → Bool
names None k = false
names (Some bound) k = k == bound.1

-- the bound of some place is by row k
abbrev pub is_named : List (Option PlaceBound) → ℕ → Bool
is_named bounds k = any_below (length bounds) (λ p. names (told (kept_at bounds p)) k)

-- each bound is by one of this many rows
abbrev pub IsWithin : ℕ → Option (ℤ × ℕ) → Type 0
IsWithin rows None = Unit {0}
IsWithin rows (Some bound) = bound.1 < rows

abbrev pub AreWithin : ℕ → List (Option PlaceBound) → Type 0
AreWithin rows bounds = (p : ℕ) → p < length bounds → IsWithin rows (told (kept_at bounds p))

-- the first n places that have a positive entry, each with its entry
abbrev pub terms_below : ℕ → (ℕ → ℕ) → List (ℕ × ℤ)
terms_below zero y = []
terms_below (suc n) y = if nat_lt 0 (y n) then terms_below n y ++ (n, pos (y n)) ∷ [] else terms_below n y

-- a row as a flow
abbrev pub flow_at : List (List ℕ) → ℕ → List (ℕ × ℤ)
flow_at rows k = terms_below (length (slice_index_or rows k [])) (row_at rows k)

-- the flows of those of the first n rows that are named
abbrev pub flows_below : List (List ℕ) → (ℕ → Bool) → ℕ → List (List (ℕ × ℤ))
flows_below rows named zero = []
flows_below rows named (suc n) = if named n then flows_below rows named n ++ flow_at rows n ∷ [] else flows_below rows named n

-- the number of a named row among the flows, from 1
abbrev pub number_of : List (List ℕ) → (ℕ → Bool) → ℕ → ℕ
number_of rows named k = length (flows_below rows named k) + 1

-- the claim of a place with this bound, by the numbers of the rows; one without a bound has none
abbrev pub claim_of : (ℕ → ℕ) → ℕ → Option (ℤ × ℕ) → List Claim
claim_of number p None = []
claim_of number p (Some bound) = record { place = p; bound = bound.0; flow = number bound.1 } ∷ []

-- the claims of the first n places
abbrev pub claims_below : (ℕ → ℕ) → List (Option PlaceBound) → ℕ → List Claim
claims_below number bounds zero = []
claims_below number bounds (suc p) = claims_below number bounds p ++ claim_of number p (told (kept_at bounds p))

-- the certificate
abbrev pub bounds_certificate : List (List ℕ) → List (Option PlaceBound) → Certificate
bounds_certificate rows bounds =
    Bounds record {
      flows = flows_below rows (is_named bounds) (length rows);
      claims = claims_below (number_of rows (is_named bounds)) bounds (length bounds);
    }

-- neither of the two sums of a vector exceeds 2^127 - 1 at any column
abbrev pub IsNarrow : Net → (ℕ → ℕ) → Type 0
IsNarrow net y = (t : ℕ) → t < net.transitions → AreNarrow (incidence_of net) t y

-- the first column at which one of the sums does
pub record IsFirstWide (net : Net) (y : ℕ → ℕ) (column : ℕ) : Type 0 where
  pub within : column < net.transitions
  pub wide : AreNarrow (incidence_of net) column y → ⊥
  pub before : (t : ℕ) → t < column → AreNarrow (incidence_of net) t y

-- the named ones of the first n rows are narrow at every column
abbrev pub AreNarrowFlows : Net → List (List ℕ) → (ℕ → Bool) → ℕ → Type 0
AreNarrowFlows net rows named n = (k : ℕ) → k < n → IsTrue (named k) → IsNarrow net (row_at rows k)

-- the first named row that has a wide sum at some column, and its first such column
pub record IsFirstWideCheck (net : Net) (rows : List (List ℕ)) (named : ℕ → Bool) (row column : ℕ) : Type 0 where
  pub within : row < length rows
  pub used : IsTrue (named row)
  pub wide : IsFirstWide net (row_at rows row) column
  pub before : AreNarrowFlows net rows named row

-- out of memory may come at any time, a wide check only where there is one
abbrev pub FailsToCertify : Net → List (List ℕ) → (ℕ → Bool) → BoundCertFault → Type 0
FailsToCertify net rows named NoMemory = Unit {0}
FailsToCertify net rows named (WideCheck row column) = IsFirstWideCheck net rows named row column
