use Rattle.std.proofs.Common.{ℕ, ◌<◌, ◌≤◌}
use Rattle.net_values.specs.FlatNets.{net_of}
use Rattle.net_class.specs.Neighbours.{weights_of}
use Rattle.net_class.proofs.transitions.have_unit_weights.Given as goal

abbrev pub invariant-loop-t : goal.invariant-loop-t
invariant-loop-t l = (p u : ℕ) → p < (net_of l.net).places → u < l.t → weights_of l.neighbours (net_of l.net) p u ≤ 1
