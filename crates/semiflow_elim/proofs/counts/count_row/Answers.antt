use Rattle.semiflow_elim.proofs.Counting.{counted_few, counted_more}
use Rattle.semiflow_elim.proofs.counts.count_row.Goals as goal

pub counted_with-requires : goal.counted_with-requires
counted_with-requires c =
    counted_few c.args.counts.now c.loop-own.counts c.args.sums.now c.loop-own.own-index record { column = 0; gain = 0; loss = 0 } c.loop-own.invariant c.requires.listed c.loop-own-test.true c.requires.few

pub loop-own-preserved : goal.loop-own-preserved
loop-own-preserved c =
    counted_more c.args.counts.now c.loop-own.counts c.args.sums.now c.loop-own.own-index record { column = 0; gain = 0; loss = 0 } c.loop-own.invariant c.requires.listed c.loop-own-test.true c.counted_with.result c.counted_with.ensures
