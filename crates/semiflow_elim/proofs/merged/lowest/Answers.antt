use Rattle.semiflow_elim.proofs.Merging.{none_where, some_where, lowest_first, lowest_second, lowest_both}
use Rattle.semiflow_elim.proofs.merged.lowest.Goals as goal

pub returns-then-is_empty : goal.returns-then-is_empty
returns-then-is_empty c = λ n width one two.
    lowest_second n width c.args.first.now c.args.second.now (none_where _ _ c.is_empty.ensures c.if-is_empty.true) (some_where _ _ c.is_empty-then-is_empty.ensures c.if-is_empty-2.false) two

pub returns-then-is_empty-3 : goal.returns-then-is_empty-3
returns-then-is_empty-3 c = λ n width one two.
    lowest_first n width c.args.first.now c.args.second.now (some_where _ _ c.is_empty.ensures c.if-is_empty.false) (none_where _ _ c.is_empty-2.ensures c.if-is_empty-3.true) one

pub returns : goal.returns
returns c = λ n width one two.
    lowest_both n width c.args.first.now c.args.second.now c.min.result (some_where _ _ c.is_empty.ensures c.if-is_empty.false) (some_where _ _ c.is_empty-2.ensures c.if-is_empty-3.false) c.min.ensures one two
