use Rattle.std.proofs.Common.{arith}
use Rattle.net_values.proofs.TokenCounts.{nowhere, room_left}
use Rattle.net_values.proofs.marking.Marking.put.Goals as goal

pub overflow_add-index_mut : goal.overflow_add-index_mut
overflow_add-index_mut c =
    let small = room_left c.args.self.now c.loop-entry.self-inside.counts.items c.args.entries.now c.loop-entry.entry-index c.index_mut.result.now (omega arith) (omega (arith, c.requires.within c.loop-entry.entry-index nowhere (omega arith))) c.index_mut.ensures.value c.requires.narrow c.loop-entry.invariant.1 in
    omega arith
