use Rattle.net_values.specs.FlatNets.{net_of}
use Rattle.siphon_branch.specs.LiveClasses.{branch_of}
use Rattle.cert_make.specs.Trees.{places_left}
use Rattle.cert_make.proofs.GrowingTrees.{IsDescending}
use Rattle.cert_make.proofs.tree.Tree.descend.Given as goal

abbrev pub invariant-class : goal.invariant-class
invariant-class l = IsDescending (net_of l.net) l.fn.self l.self l.class

abbrev pub decreases-class : goal.decreases-class
decreases-class l = places_left (branch_of l.class)
