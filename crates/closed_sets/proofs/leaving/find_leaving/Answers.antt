use Rattle.std.proofs.Common.{◌<◌, ◌≤◌, length, arith}
use Rattle.net_values.specs.FlatNets.{net_of}
use Rattle.closed_sets.proofs.LeavingSets.{found_before_all}
use Rattle.closed_sets.proofs.leaving.find_leaving.Goals as goal

pub returns-clause-leaving : goal.returns-clause-leaving
returns-clause-leaving c =
    let past : length c.loop-t.leaving ≤ c.loop-t.t = let size = c.loop-t.invariant.size in let end = c.size-t-end.ensures.value in omega arith in
    let some : 0 < c.loop-t.t = let size = c.loop-t.invariant.size in let room = c.requires.room in omega arith in
    found_before_all (net_of c.args.net.now) c.args.set.now c.loop-t.leaving c.loop-t.t (let few = c.loop-t.invariant.few some in let size = c.loop-t.invariant.size in let room = c.requires.room in omega arith) past c.loop-t.invariant.found
