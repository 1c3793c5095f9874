-- The table has the transitions from the first one on, which is what is still to be put in.
use Rattle.std.proofs.Common.{◌≤◌}
use Rattle.net_values.specs.FlatNets.{net_of}
use Rattle.net_values.specs.Nodes.{transition_id}
use Rattle.net_replay.specs.Numbers.{NumbersFrom}
use Rattle.net_replay.proofs.numbers.number_transitions.Given as goal

abbrev pub invariant-loop-first : goal.invariant-loop-first
invariant-loop-first l = (l.first ≤ (net_of l.net).transitions) × NumbersFrom (net_of l.net).transitions (transition_id l.net) l.first l.numbers

abbrev pub decreases-loop-first : goal.decreases-loop-first
decreases-loop-first l = l.first
