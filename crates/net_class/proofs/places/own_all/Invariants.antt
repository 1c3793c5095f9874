use Rattle.std.proofs.Common.{◌≡◌, length}
use Rattle.net_values.specs.FlatNets.{net_of}
use Rattle.net_class.specs.Owners.{AreOwners}
use Rattle.net_class.specs.Neighbours.{weights_of}
use Rattle.net_class.proofs.places.own_all.Given as goal

abbrev pub invariant-loop-t : goal.invariant-loop-t
invariant-loop-t l =
    (length l.owners ≡ length l.fn.owners) × AreOwners (net_of l.net) (weights_of l.neighbours (net_of l.net)) (λ t u. t ≡ u) l.t l.owners
