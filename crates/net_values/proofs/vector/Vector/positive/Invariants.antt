-- so many positive entries were passed
use Rattle.std.proofs.Common.{◌≡◌}
use Rattle.net_values.specs.Vectors.{positives_below}
use Rattle.net_values.proofs.vector.Vector.positive.Given as goal

abbrev pub invariant-loop-number : goal.invariant-loop-number
invariant-loop-number l = record {
  same : l.walk.entries ≡ l.self;
  passed : positives_below l.self l.walk.from ≡ l.number;
}
