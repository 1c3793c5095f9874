use Rattle.std.proofs.Common.{ℕ, ◌+◌, ◌-◌, ◌*◌, ◌<◌, ◌^◌, rules, arith}
use Rattle.semiflow_elim.proofs.Pairs.{gcd_positive, formed_narrow, largest_narrow, quotient_positive}
use Rattle.semiflow_elim.proofs.candidates.refuse_wide.Goals as goal

pub returns-then-is_ok-clause-narrow : goal.returns-then-is_ok-clause-narrow
returns-then-is_ok-clause-narrow c =
    let a : ℕ = c.args.first.gain - c.args.first.loss in
    let b : ℕ = c.args.second.loss - c.args.second.gain in
    let small : b * c.args.first.largest + a * c.args.second.largest < 2 ^ 127 = search rules in
    largest_narrow c.args.r.now c.args.s.now a b c.args.first.largest c.args.second.largest c.requires.first_largest c.requires.second_largest small

pub nonzero_div-b : goal.nonzero_div-b
nonzero_div-b c = gcd_positive _ _ _ c.gcd-g.ensures (let positive = c.requires.positive in omega arith)

pub nonzero_div-a : goal.nonzero_div-a
nonzero_div-a c = gcd_positive _ _ _ c.gcd-g.ensures (let positive = c.requires.positive in omega arith)

pub returns-clause-narrow : goal.returns-clause-narrow
returns-clause-narrow c =
    let a : ℕ = c.args.first.gain - c.args.first.loss in
    let b : ℕ = c.args.second.loss - c.args.second.gain in
    formed_narrow c.args.r.now c.args.s.now c.in_ok-_sum._sum a b c.gcd-g.result c.gcd-g.ensures c.in_ok-_sum.ensures.ok

pub scaled_sum-requires-clause-first : goal.scaled_sum-requires-clause-first
scaled_sum-requires-clause-first c = quotient_positive c.gcd-g.result (c.args.second.loss - c.args.second.gain) c.gcd-g.ensures.1 (let negative = c.requires.negative in omega arith)

pub scaled_sum-requires-clause-second : goal.scaled_sum-requires-clause-second
scaled_sum-requires-clause-second c = quotient_positive c.gcd-g.result (c.args.first.gain - c.args.first.loss) c.gcd-g.ensures.0 (let positive = c.requires.positive in omega arith)
