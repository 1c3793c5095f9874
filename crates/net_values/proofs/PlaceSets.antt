-- The complement of a set has its size, and holds each place below the size that the set lacks.
use Rattle.std.proofs.Common.{◌≡◌, ℕ, ◌<◌, List, Bool, false, not, length}
use Rattle.std.proofs.lemmas.List.{get_or-map, length-map}
use Rattle.net_values.specs.PlaceSets.{complement, has}

pub complement_size : (set : List Bool) → length (complement set) ≡ length set
complement_size set = length-map set not

pub complement_has : (set : List Bool) (p : ℕ) → p < length set → has (complement set) p ≡ not (has set p)
complement_has set p within = get_or-map not set p false false within
