use Rattle.std.proofs.Common.{AllPairs, take}
use Rattle.siphon_branch.specs.Classes.{AreDisjoint}
use Rattle.branch_resume.proofs.disjoint.first_of_pairs.Given as goal

abbrev pub invariant-loop-k : goal.invariant-loop-k
invariant-loop-k l = AllPairs AreDisjoint (take l.k l.classes)
