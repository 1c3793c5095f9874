use Rattle.std.proofs.Common.{◌≡◌, ◌-◌, ◌≤◌, length}
use Rattle.sub_semiflow.proofs.Fronts.{IsFront}
use Rattle.sub_semiflow.proofs.cuts.front.Given as goal

abbrev pub invariant-entries : goal.invariant-entries
invariant-entries l = record {
  same : l.walk.entries ≡ l.row;
  within : l.walk.from ≤ length l.row;
  front : IsFront l.row l.count l.walk.from l.front;
}

abbrev pub decreases-entries : goal.decreases-entries
decreases-entries l = length l.row - l.walk.from
