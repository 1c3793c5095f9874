use Rattle.std.proofs.Common.{◌≡◌, take}
use Rattle.siphon_branch.specs.LiveClasses.{branches_of}
use Rattle.siphon_branch.proofs.stack.alone.Given as goal

abbrev pub invariant-loop-class : goal.invariant-loop-class
invariant-loop-class l = l.branches ≡ branches_of (take l.class-index l.classes)
