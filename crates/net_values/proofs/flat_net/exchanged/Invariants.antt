use Rattle.std.proofs.Common.{◌≡◌, take, map}
use Rattle.net_values.specs.FlatNets.{turned}
use Rattle.net_values.proofs.flat_net.exchanged.Given as goal

abbrev pub invariant-loop-transition : goal.invariant-loop-transition
invariant-loop-transition l = l.copies.items ≡ map turned (take l.transition-index l.transitions)
