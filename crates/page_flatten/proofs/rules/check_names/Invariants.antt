use Rattle.std.specs.Prelude.{take}
use Rattle.std.specs.List.{AllByRecursion}
use Rattle.page_flatten.specs.Names.{KeepsRule}
use Rattle.page_flatten.proofs.rules.check_names.Given as goal

abbrev pub invariant-loop-k : goal.invariant-loop-k
invariant-loop-k l = AllByRecursion (KeepsRule l.rule) (take l.k l.nets)
