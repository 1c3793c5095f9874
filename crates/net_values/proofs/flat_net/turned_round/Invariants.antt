use Rattle.std.proofs.Common.{◌≡◌, take, map}
use Rattle.net_values.specs.PlaceArcs.{arcs_turned}
use Rattle.net_values.proofs.flat_net.turned_round.Given as goal

abbrev pub invariant-loop-arcs : goal.invariant-loop-arcs
invariant-loop-arcs l = l.copies.items ≡ map arcs_turned (take l.arcs-index l.by_place)
