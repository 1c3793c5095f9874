use Rattle.std.proofs.Common.{◌≡◌, map, take}
use Rattle.sub_semiflow.proofs.cuts.cut.Given as goal

abbrev pub invariant-loop-row : goal.invariant-loop-row
invariant-loop-row l = l.cuts.items ≡ map (take l.count) (take l.row-index l.rows)
