use Rattle.std.proofs.Common.{arith}
use Rattle.semiflow_elim.proofs.Merging.{none_where, some_where, taken_first, taken_none}
use Rattle.semiflow_elim.proofs.merged.taken_at.Goals as goal

pub returns-then-is_empty : goal.returns-then-is_empty
returns-then-is_empty c = λ width h.
    taken_none width c.args.sums.now c.args.column (λ some same. let none = none_where _ _ c.is_empty.ensures c.if-is_empty.true in absurd (omega arith)) h

pub returns-then-sums-column : goal.returns-then-sums-column
returns-then-sums-column c = λ width h.
    taken_none width c.args.sums.now c.args.column (λ some same. c.if-sums-column.true same) h

pub returns : goal.returns
returns c = λ width h.
    taken_first width c.args.sums.now c.args.column (some_where _ _ c.is_empty.ensures c.if-is_empty.false) c.if-sums-column.false h
