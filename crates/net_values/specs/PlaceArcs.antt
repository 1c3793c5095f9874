-- The transitions that the arcs of one place join it to, as two ascending lists of numbers.
use Rattle.std.specs.Prelude.{◌≡◌, ◌↔◌, ◌⊎◌, ℕ, ◌<◌, List, [], AllPairs, Contains, slice_index_or}

-- each number is below the later ones
abbrev pub IsAscending : List ℕ → Type 0
IsAscending list = AllPairs (λ one later. one < later) list

-- the new list has the members of the old one and this number
pub record HasOneMore (old new : List ℕ) (number : ℕ) : Type 0 where
  pub members : (u : ℕ) → (Contains new u) ↔ ((u ≡ number) ⊎ Contains old u)

-- the transitions that take from the place, and those that give to it
pub record ArcLists : Type 0 where
  pub takers : List ℕ
  pub givers : List ℕ

-- both lists ascend
pub record AreArcLists (lists : ArcLists) : Type 0 where
  pub takers : IsAscending lists.takers
  pub givers : IsAscending lists.givers

-- those that take as those that give, and the other way round
abbrev pub arcs_turned : ArcLists → ArcLists
arcs_turned lists = record { takers = lists.givers; givers = lists.takers }

-- the lists of a place; a place that isn't there has no arcs
abbrev pub arcs_at : List ArcLists → ℕ → ArcLists
arcs_at all p = slice_index_or all p record { takers = []; givers = [] }

-- the numbers with a positive weight, in ascending order
pub record ListsPositive (weights : ℕ → ℕ) (list : List ℕ) : Type 0 where
  pub ascending : IsAscending list
  pub members : (t : ℕ) → (Contains list t) ↔ (0 < weights t)
