use Rattle.std.proofs.Common.{subst, ℕ}
use Rattle.semiflow_elim.specs.Arithmetic.{IsGcdOfAll}
use Rattle.semiflow_elim.proofs.Pairs.{combined_is, divisor_least, divisor_positive, gcd_positive, quotient_positive}
use Rattle.semiflow_elim.proofs.candidates.combined.Goals as goal

pub nonzero_div-first : goal.nonzero_div-first
nonzero_div-first c = gcd_positive c.args.a c.args.b _ c.gcd-g.ensures c.requires.first

pub nonzero_div-second : goal.nonzero_div-second
nonzero_div-second c = gcd_positive c.args.a c.args.b _ c.gcd-g.ensures c.requires.first

pub scaled_sum-requires-clause-first : goal.scaled_sum-requires-clause-first
scaled_sum-requires-clause-first c = quotient_positive c.gcd-g.result c.args.b c.gcd-g.ensures.1 c.requires.second

pub scaled_sum-requires-clause-second : goal.scaled_sum-requires-clause-second
scaled_sum-requires-clause-second c = quotient_positive c.gcd-g.result c.args.a c.gcd-g.ensures.0 c.requires.first

pub divide-requires-clause-positive : goal.divide-requires-clause-positive
divide-requires-clause-positive c =
    divisor_positive _ _ c.args.r.now c.args.s.now c.in_ok-row.row c.gcd_of_all-divisor.result c.in_ok-row.ensures.ok
    (subst (λ (n : ℕ). IsGcdOfAll c.in_ok-row.row n c.gcd_of_all-divisor.result) c.in_ok-row.ensures.ok.size c.gcd_of_all-divisor.ensures)
    c.requires.nonzero
    (quotient_positive c.gcd-g.result c.args.b c.gcd-g.ensures.1 c.requires.second)

pub divide-requires-clause-least : goal.divide-requires-clause-least
divide-requires-clause-least c = λ i some. divisor_least c.in_ok-row.row c.gcd_of_all-divisor.result i c.gcd_of_all-divisor.ensures some

pub returns-clause-ok : goal.returns-clause-ok
returns-clause-ok c =
    combined_is c.args.r.now c.args.s.now c.in_ok-row.row c.divide.new.self c.args.a c.args.b c.gcd-g.result c.gcd_of_all-divisor.result c.gcd-g.ensures c.in_ok-row.ensures.ok c.gcd_of_all-divisor.ensures c.divide.ensures

pub returns-clause-divisor : goal.returns-clause-divisor
returns-clause-divisor c =
    divisor_positive _ _ c.args.r.now c.args.s.now c.in_ok-row.row c.gcd_of_all-divisor.result c.in_ok-row.ensures.ok
    (subst (λ (n : ℕ). IsGcdOfAll c.in_ok-row.row n c.gcd_of_all-divisor.result) c.in_ok-row.ensures.ok.size c.gcd_of_all-divisor.ensures)
    c.requires.nonzero
    (quotient_positive c.gcd-g.result c.args.b c.gcd-g.ensures.1 c.requires.second)
