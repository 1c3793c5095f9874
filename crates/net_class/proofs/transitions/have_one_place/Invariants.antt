use Rattle.std.proofs.Common.{ℕ, ◌<◌}
use Rattle.net_values.specs.FlatNets.{net_of}
use Rattle.net_class.specs.Classes.{HasOne}
use Rattle.net_class.specs.Neighbours.{weights_of}
use Rattle.net_class.proofs.transitions.have_one_place.Given as goal

abbrev pub invariant-loop-t : goal.invariant-loop-t
invariant-loop-t l = (u : ℕ) → u < l.t → HasOne (net_of l.net).places (λ p. 0 < weights_of l.neighbours (net_of l.net) p u)
