use Rattle.std.specs.Prelude.{take}
use Rattle.std.specs.List.{AllByRecursion, AllZip}
use Rattle.page_flatten.specs.Rules.{EndsChains}
use Rattle.page_flatten.specs.Tables.{AreSettled}
use Rattle.page_flatten.proofs.chains.settle_all.Given as goal

abbrev pub invariant-loop-k : goal.invariant-loop-k
invariant-loop-k l = record {
  settled : AllZip AreSettled (take l.k l.nets) l.all;
  chains : AllByRecursion EndsChains (take l.k l.nets);
}
