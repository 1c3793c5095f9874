use Rattle.std.specs.Prelude.{take}
use Rattle.std.specs.List.{AllByRecursion}
use Rattle.page_flatten.specs.Rules.{JoinsArcs}
use Rattle.page_flatten.proofs.NetChoice.{IsChosenUpTo}
use Rattle.page_flatten.proofs.flattening.chosen_net.Given as goal

abbrev pub invariant-loop-k : goal.invariant-loop-k
invariant-loop-k l = record {
  joins : AllByRecursion JoinsArcs (take l.k l.nets);
  chosen : IsChosenUpTo l.nets l.number l.k l.chosen;
}
