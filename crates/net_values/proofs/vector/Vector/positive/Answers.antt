use Rattle.std.proofs.Common.{◌≡◌, ◌∙◌, subst, ℕ, Option, MatchOption, arith}
use Rattle.net_values.specs.Vectors.{AreZerosFrom, IsFirstPositive, IsPositive}
use Rattle.net_values.proofs.Walks.{found_is, goes_by_one, goes_on}
use Rattle.net_values.proofs.vector.Vector.positive.Goals as goal

pub loop-number-preserved : goal.loop-number-preserved
loop-number-preserved c =
    let walk = c.loop-number.walk in
    let more = c.requires in
    let under = c.loop-number-test.true in
    record {
      same = c.next-passed.ensures.same ∙ c.loop-number.invariant.same;
      passed = goes_by_one c.args.self.now walk c.loop-number.number c.next-passed.new.self.from c.next-passed.result c.loop-number.invariant.same c.loop-number.invariant.passed (omega arith) c.next-passed.ensures.next c.next-passed.ensures.from;
    }

pub unreachable-requires : goal.unreachable-requires
unreachable-requires c =
    let walk = c.loop-number.walk in
    goes_on c.args.self.now walk c.loop-number.number c.loop-number.invariant.same c.loop-number.invariant.passed (omega (arith, c.requires, c.loop-number.auto.number-end)) (subst (λ (o : Option (ℕ × ℕ)). MatchOption o (AreZerosFrom walk.entries walk.from) (λ f. IsFirstPositive walk.entries walk.from f.0 f.1)) c.in-None.is c.next.ensures.next)

pub returns-clause-position : goal.returns-clause-position
returns-clause-position c =
    let walk = c.loop-number.walk in
    let whole : c.loop-number.number ≡ c.args.k = omega (arith, c.loop-number-test.false, c.loop-number.auto.number-end) in
    subst (λ (k : ℕ). IsPositive c.args.self.now k c.in-Some.position) whole
    (found_is c.args.self.now walk c.loop-number.number c.in-Some.position c.in-Some.entry c.loop-number.invariant.same c.loop-number.invariant.passed c.in-Some.ensures.next)
