use Rattle.std.proofs.Common.{All, take}
use Rattle.siphon_branch.specs.Classes.{AreDisjoint}
use Rattle.branch_resume.proofs.disjoint.overlaps.Given as goal

abbrev pub invariant-loop-one : goal.invariant-loop-one
invariant-loop-one l = All (λ one. AreDisjoint one l.class) (take l.one-index l.earlier)
