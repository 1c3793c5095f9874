use Rattle.std.proofs.Common.{◌-◌, length}
use Rattle.net_values.specs.FlatNets.{net_of}
use Rattle.cert_make.proofs.GrowingTrees.{GoesOn}
use Rattle.cert_make.proofs.commoner.commoner_certificate.Given as goal

abbrev pub invariant-siphons : goal.invariant-siphons
invariant-siphons l = GoesOn (net_of l.net) l.tree l.sets

abbrev pub decreases-siphons : goal.decreases-siphons
decreases-siphons l = l.sets - length l.tree.met
