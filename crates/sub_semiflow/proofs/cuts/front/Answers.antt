use Rattle.std.proofs.Common.{arith}
use Rattle.sub_semiflow.proofs.Fronts.{front_all}
use Rattle.sub_semiflow.proofs.cuts.front.Goals as goal

pub zeros-requires : goal.zeros-requires
zeros-requires c = let short = c.walk-walk.ensures.vector.short in let long = c.requires in omega arith

pub returns : goal.returns
returns c = front_all c.args.row.now c.args.count c.entries.walk c.entries.front c.entries.invariant.same c.entries.invariant.front c.requires c.in_default.ensures.next
