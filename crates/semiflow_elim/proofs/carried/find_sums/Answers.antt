use Rattle.std.proofs.Common.{sym, ap, ◌∙◌, arith}
use Rattle.std.proofs.lemmas.List.{get_or_default}
use Rattle.semiflow_elim.specs.declared.carried.ColumnSums.{ColumnSums}
use Rattle.semiflow_elim.proofs.CarriedSums.{free_passed, no_sums, sums_met, sums_free}
use Rattle.semiflow_elim.proofs.carried.find_sums.Goals as goal

pub returns-then-own-column : goal.returns-then-own-column
returns-then-own-column c =
    let sums = c.args.sums.now in
    let k = c.loop-own.own-index in
    let same = get_or_default sums k record { column = 0; gain = 0; loss = 0 } (no_sums c.args.column) c.loop-own-test.true in
    same ∙ sym (sums_met sums c.args.column k c.loop-own.invariant c.loop-own-test.true (ap (λ (o : ColumnSums). o.column) (sym same) ∙ c.if-own-column.true))

pub returns-then-column-own : goal.returns-then-column-own
returns-then-column-own c =
    let sums = c.args.sums.now in
    let k = c.loop-own.own-index in
    let same = get_or_default sums k record { column = 0; gain = 0; loss = 0 } (no_sums c.args.column) c.loop-own-test.true in
    let column = ap (λ (o : ColumnSums). o.column) same in
    let past = c.if-column-own.true in
    sums_free sums c.args.column (free_passed c.requires.0 sums c.args.column k c.requires.1 c.loop-own-test.true (omega arith) c.loop-own.invariant)

pub returns : goal.returns
returns c = sums_free c.args.sums.now c.args.column (λ k under. c.loop-own.invariant k (let done = c.loop-own-test.false in omega arith))
