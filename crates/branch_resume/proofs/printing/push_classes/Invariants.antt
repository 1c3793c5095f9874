use Rattle.std.proofs.Common.{◌≡◌, ◌++◌, take}
use Rattle.std.specs.List.{flat_map}
use Rattle.branch_resume.specs.Tokens.{class_line}
use Rattle.branch_resume.proofs.printing.push_classes.Given as goal

abbrev pub invariant-loop-class : goal.invariant-loop-class
invariant-loop-class l = l.text ≡ l.fn.text ++ flat_map class_line (take l.class-index l.classes)
