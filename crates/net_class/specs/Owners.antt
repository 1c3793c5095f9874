-- A walk over the transitions in order that keeps for each place one of the transitions that it is joined
-- to, its owner.
use Rattle.std.specs.Prelude.{◌≡◌, ℕ, ◌<◌, List, Option, Some, None, All, Any, slice_index_or}
use Rattle.net_values.specs.Net.{Net}
use Rattle.net_values.specs.declared.column.WeightedPlace.{WeightedPlace}
use Rattle.net_class.specs.Classes.{ShareAnInput, HaveSameInputs}

-- the owner of the place, if it has one
abbrev pub owner_at : List (Option ℕ) → ℕ → Option ℕ
owner_at owners p = slice_index_or owners p None

-- no place of the entries has an owner
abbrev pub NoneIsOwned : List WeightedPlace → List (Option ℕ) → Type 0
NoneIsOwned entries owners = All (λ entry. owner_at owners entry.place ≡ None) entries

-- some place of the entries has this owner
abbrev pub IsOwned : List WeightedPlace → List (Option ℕ) → ℕ → Type 0
IsOwned entries owners owner = Any (λ entry. owner_at owners entry.place ≡ Some owner) entries

-- an owner is one of the first transitions and is joined to its place, and each of the first transitions
-- is like the owners of the places that it is joined to
pub record AreOwners (net : Net) (weights : ℕ → ℕ → ℕ) (Alike : ℕ → ℕ → Type 0) (count : ℕ) (owners : List (Option ℕ)) : Type 0 where
  pub joined : (p owner : ℕ) → owner_at owners p ≡ Some owner → (owner < count) × (0 < weights p owner)
  pub covers : (p t : ℕ) → p < net.places → t < count → 0 < weights p t → (owner : ℕ) × (owner_at owners p ≡ Some owner) × Alike t owner

-- some place is joined to two transitions
pub record HasTwoTransitions (net : Net) (weights : ℕ → ℕ → ℕ) : Type 0 where
  pub place : ℕ
  pub first : ℕ
  pub second : ℕ
  pub below : place < net.places
  pub before : first < second
  pub within : second < net.transitions
  pub with_first : 0 < weights place first
  pub with_second : 0 < weights place second

-- two transitions share an input place and haven't the same input places
pub record HasUnlike (net : Net) : Type 0 where
  pub first : ℕ
  pub second : ℕ
  pub first_within : first < net.transitions
  pub second_within : second < net.transitions
  pub shared : ShareAnInput net first second
  pub unlike : HaveSameInputs net first second → ⊥
