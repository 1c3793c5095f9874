use Rattle.std.proofs.Common.{arith}
use Rattle.net_values.proofs.TokenCounts.{nowhere, enough_left}
use Rattle.net_values.proofs.marking.Marking.take.Goals as goal

pub overflow_sub-index_mut : goal.overflow_sub-index_mut
overflow_sub-index_mut c =
    enough_left c.args.self.now c.loop-entry.self-inside.counts.items c.args.entries.now c.loop-entry.entry-index c.index_mut.result.now (omega arith) (omega (arith, c.requires.within c.loop-entry.entry-index nowhere (omega arith))) c.index_mut.ensures.value c.requires.enough c.loop-entry.invariant.1
