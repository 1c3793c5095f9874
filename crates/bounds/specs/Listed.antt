-- The bounds of places, each with the first listed row that gives it.
use Rattle.std.specs.Prelude.{◌≡◌, ℕ, ℤ, pos, ◌/◌, ◌^◌, ◌<◌, ◌≤◌, ◌==◌, if◌then◌else◌, nat_lt, Option, None, Some, MatchOption, List, [], length, slice_index, slice_index_or}
use Rattle.net_values.specs.Net.{Net}
use Rattle.net_values.specs.TokenGame.{IsReachable}
use Rattle.incidence.specs.Invariance.{weighted_tokens}
use Rattle.bounds.specs.declared.place_bound.PlaceBound.{PlaceBound}
use Rattle.bounds.specs.LeastBound.{bound_by, IsLeastBound}

-- row k of a list, as a vector
abbrev pub row_at : List (List ℕ) → ℕ → ℕ → ℕ
row_at rows k = slice_index (slice_index_or rows k [])

-- what a place has
abbrev pub kept_at : List (Option PlaceBound) → ℕ → Option PlaceBound
kept_at kept p = slice_index_or kept p None

-- its bound
abbrev pub bound_of : Option PlaceBound → Option ℕ
bound_of None = None
bound_of (Some kept) = Some kept.bound

-- the bound with the number of the row
abbrev pub told : Option PlaceBound → Option (ℤ × ℕ)
told None = None
told (Some kept) = Some (pos kept.bound, kept.row)

-- each place has its least bound
abbrev pub AreLeastBounds : Net → List (Option PlaceBound) → Type 0
AreLeastBounds net kept = (p : ℕ) → p < net.places → IsLeastBound net p (bound_of (kept_at kept p))

-- at every reachable marking each place has at most as many tokens as its bound says
abbrev pub BoundsHold : Net → List (Option PlaceBound) → Type 0
BoundsHold net kept = (M : ℕ → ℕ) → IsReachable net M → (p : ℕ) → p < net.places → MatchOption (kept_at kept p) (Unit {0}) (λ bound. M p ≤ bound.bound)

-- the row covers the place and gives the bound, none of the first n rows gives a smaller one, and none before
-- the row gives as small a one
pub record IsFirstLeast (net : Net) (rows : List (List ℕ)) (n p : ℕ) (kept : PlaceBound) : Type 0 where
  pub within : kept.row < n
  pub covers : 0 < row_at rows kept.row p
  pub gives : kept.bound ≡ bound_by net (row_at rows kept.row) p
  pub least : (k : ℕ) → k < n → 0 < row_at rows k p → kept.bound ≤ bound_by net (row_at rows k) p
  pub first : (k : ℕ) → k < kept.row → 0 < row_at rows k p → kept.bound < bound_by net (row_at rows k) p

-- the bound of the first n rows: none where no row covers the place
abbrev pub IsLeastOfRows : Net → List (List ℕ) → ℕ → ℕ → Option PlaceBound → Type 0
IsLeastOfRows net rows n p None = (k : ℕ) → k < n → row_at rows k p ≡ 0
IsLeastOfRows net rows n p (Some kept) = IsFirstLeast net rows n p kept

-- each place has the first row that gives its bound
abbrev pub NameFirstRows : Net → List (List ℕ) → List (Option PlaceBound) → Type 0
NameFirstRows net rows kept = (p : ℕ) → p < net.places → IsLeastOfRows net rows (length rows) p (kept_at kept p)

-- the weighted tokens of a row at the initial marking
abbrev pub tokens_of : Net → List (List ℕ) → ℕ → ℕ
tokens_of net rows k = weighted_tokens net (row_at rows k) net.initial

-- those of the first n rows don't exceed 2^127 - 1
abbrev pub AreNarrowRows : Net → List (List ℕ) → ℕ → Type 0
AreNarrowRows net rows n = (k : ℕ) → k < n → tokens_of net rows k < 2 ^ 127

-- the first row whose weighted tokens exceed 2^127 - 1
pub record IsFirstWideRow (net : Net) (rows : List (List ℕ)) (row : ℕ) : Type 0 where
  pub within : row < length rows
  pub wide : 2 ^ 127 ≤ tokens_of net rows row
  pub before : AreNarrowRows net rows row

-- the smaller of the bound that is kept and a new one; where they are equal, the one that is kept
abbrev pub smaller_of : Option PlaceBound → PlaceBound → Option PlaceBound
smaller_of None new = Some new
smaller_of (Some old) new = if nat_lt new.bound old.bound then Some new else Some old

-- what a place has after a row with this entry and these weighted tokens
abbrev pub tightened : Option PlaceBound → ℕ → ℕ → ℕ → Option PlaceBound
tightened kept entry tokens row = if entry == 0 then kept else smaller_of kept record { bound = tokens / entry; row = row }

-- no bound exceeds 2^127 - 1
pub record AreNarrow (kept : List (Option PlaceBound)) : Type 0 where
  pub narrow : (p : ℕ) → MatchOption (kept_at kept p) (Unit {0}) (λ bound. bound.bound < 2 ^ 127)
