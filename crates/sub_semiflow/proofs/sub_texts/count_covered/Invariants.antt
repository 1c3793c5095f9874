use Rattle.std.proofs.Common.{◌≡◌}
use Rattle.sub_semiflow.specs.Texts.{covered_below}
use Rattle.sub_semiflow.proofs.sub_texts.count_covered.Given as goal

abbrev pub invariant-loop-p : goal.invariant-loop-p
invariant-loop-p l = l.count ≡ covered_below l.rows l.p
