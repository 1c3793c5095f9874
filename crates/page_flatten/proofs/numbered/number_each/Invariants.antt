use Rattle.std.specs.Prelude.{take}
use Rattle.std.specs.List.{AllZip}
use Rattle.page_flatten.specs.Passes.{HasEntries}
use Rattle.page_flatten.proofs.numbered.number_each.Given as goal

abbrev pub invariant-loop-k : goal.invariant-loop-k
invariant-loop-k l = AllZip HasEntries (take l.k l.nets) l.tables
