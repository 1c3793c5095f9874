use Rattle.net_values.specs.FlatNets.{net_of}
use Rattle.siphon_branch.proofs.Beginning.{IsBeginning}
use Rattle.siphon_branch.proofs.stack.live_classes.Given as goal

abbrev pub invariant-loop-class : goal.invariant-loop-class
invariant-loop-class l = IsBeginning (net_of l.net) l.branches l.class-index l.classes
