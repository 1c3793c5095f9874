-- The places of a set as a list.
use Rattle.std.specs.Prelude.{ℕ, zero, suc, Bool, if◌then◌else◌, List, [], ◌∷◌, ◌++◌}

-- the numbers below the bound that are in the set, in ascending order
abbrev pub places_below : ℕ → (ℕ → Bool) → List ℕ
places_below zero S = []
places_below (suc n) S = if S n then places_below n S ++ n ∷ [] else places_below n S
