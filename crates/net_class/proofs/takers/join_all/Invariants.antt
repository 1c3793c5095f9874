use Rattle.std.proofs.Common.{◌≡◌, length}
use Rattle.net_values.specs.FlatNets.{net_of}
use Rattle.net_class.specs.Classes.{HaveSameInputs}
use Rattle.net_class.specs.Owners.{AreOwners}
use Rattle.net_class.proofs.takers.join_all.Given as goal

abbrev pub invariant-loop-t : goal.invariant-loop-t
invariant-loop-t l =
    (length l.owners ≡ length l.fn.owners) × AreOwners (net_of l.net) (net_of l.net).pre (HaveSameInputs (net_of l.net)) l.t l.owners
