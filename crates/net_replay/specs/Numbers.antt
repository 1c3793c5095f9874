-- Tables of transitions by their ids. Only clauses of private functions cite them.
use Rattle.std.specs.Borrow.{Bor}
use Rattle.std.specs.Prelude.{◌≡◌, ◌≢◌, ℕ, ◌<◌, ◌≤◌, List, Option, Some, None, bytes_eq}
use Rattle.indexmap.specs.IndexMap.{IndexMap, get_by}

-- what a table has for an id
abbrev pub kept_for : {S : Type 0} → List ℕ → IndexMap (Bor (List ℕ)) ℕ S → Option ℕ
kept_for id table = get_by (λ key. bytes_eq id key.now) table

-- the lowest of the transitions from the first on that has the id
pub record IsLowestWith (count : ℕ) (ids : ℕ → List ℕ) (first : ℕ) (id : List ℕ) (t : ℕ) : Type 0 where
  pub from : first ≤ t
  pub within : t < count
  pub named : ids t ≡ id
  pub lowest : (u : ℕ) → first ≤ u → u < t → ids u ≢ id

-- that transition, or nothing where none has the id
abbrev pub IsFoundFrom : ℕ → (ℕ → List ℕ) → ℕ → List ℕ → Option ℕ → Type 0
IsFoundFrom count ids first id (Some t) = IsLowestWith count ids first id t
IsFoundFrom count ids first id None = (t : ℕ) → first ≤ t → t < count → ids t ≢ id

-- for each id the table has the lowest of the transitions from the first on
abbrev pub NumbersFrom : {S : Type 0} → ℕ → (ℕ → List ℕ) → ℕ → IndexMap (Bor (List ℕ)) ℕ S → Type 0
NumbersFrom count ids first table = (id : List ℕ) → IsFoundFrom count ids first id (kept_for id table)
