use Rattle.std.proofs.Common.{◌≡◌, ℕ, ◌<◌, [], length, get_or}
use Rattle.net_values.specs.FlatNets.{net_of}
use Rattle.net_values.specs.PlaceSets.{has}
use Rattle.closed_sets.specs.Commoner.{HasMarkedTrap}
use Rattle.net_class.proofs.verdict.commoner.Given as goal

abbrev pub invariant-loop-siphon : goal.invariant-loop-siphon
invariant-loop-siphon l =
    (length l.scratch ≡ (net_of l.net).places) × ((k : ℕ) → k < l.siphon-index → HasMarkedTrap (net_of l.net) (has (get_or l.sets k [])))
