use Rattle.semiflow_elim.proofs.Counting.{included_here, counted_less}
use Rattle.semiflow_elim.proofs.counts.uncount_row.Goals as goal

pub counted_without-requires : goal.counted_without-requires
counted_without-requires c =
    included_here c.loop-own.counts c.args.counts.now c.args.sums.now c.loop-own.own-index record { column = 0; gain = 0; loss = 0 } c.loop-own.invariant c.requires.listed c.loop-own-test.true c.requires.included

pub loop-own-preserved : goal.loop-own-preserved
loop-own-preserved c =
    counted_less c.loop-own.counts c.args.counts.now c.args.sums.now c.loop-own.own-index record { column = 0; gain = 0; loss = 0 } c.loop-own.invariant c.requires.listed c.loop-own-test.true c.counted_without.result c.counted_without.ensures
