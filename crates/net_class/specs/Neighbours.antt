-- The weights of the arcs to the transitions, or of those from them.
use Rattle.std.specs.Prelude.{ℕ, ◌<◌, ◌≤◌}
use Rattle.net_values.specs.Net.{Net}
use Rattle.net_class.specs.declared.neighbours.Neighbours.{Neighbours}
use Rattle.net_class.specs.declared.neighbours.Neighbours.TheVariants.{Inputs, Outputs}

-- the weights of the arcs to the transitions, or of those from them
abbrev pub weights_of : Neighbours → Net → ℕ → ℕ → ℕ
weights_of Inputs net = net.pre
weights_of Outputs net = net.post

-- no weight exceeds 1
abbrev pub UnitWeights : Net → (ℕ → ℕ → ℕ) → Type 0
UnitWeights net weights = (p t : ℕ) → p < net.places → t < net.transitions → weights p t ≤ 1

-- each input place of the first transition is one of the second
abbrev pub TakesWithin : Net → ℕ → ℕ → Type 0
TakesWithin net t u = (p : ℕ) → p < net.places → 0 < net.pre p t → 0 < net.pre p u
