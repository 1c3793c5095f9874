use Rattle.std.proofs.Common.{◌≤◌, ◌∙◌, ap, length, arith}
use Rattle.semiflow_elim.proofs.WalkedGcds.{gcd_is_one, gcd_passed, gcd_whole}
use Rattle.semiflow_elim.proofs.row_arithmetic.gcd_of_all.Goals as goal

pub entries-preserved : goal.entries-preserved
entries-preserved c =
    let from = c.in-Some.ensures.from in
    let under = c.in-Some.ensures.next.within in
    record {
      same = c.in-Some.ensures.same ∙ c.entries.invariant.same;
      within = omega (arith, ap length c.entries.invariant.same);
      gcd = gcd_passed c.args.row.now c.entries.walk c.entries.divisor c.entries.invariant.same c.entries.invariant.gcd _ c.in-Some.entry c.next.new.self.from c.gcd-divisor.result c.in-Some.ensures.next from c.gcd-divisor.ensures;
    }

pub returns-then-divisor-eq1 : goal.returns-then-divisor-eq1
returns-then-divisor-eq1 c =
    let from = c.in-Some.ensures.from in
    let under = c.in-Some.ensures.next.within in
    let within : c.next.new.self.from ≤ length c.args.row.now = omega (arith, ap length c.entries.invariant.same) in
    gcd_is_one c.args.row.now c.next.new.self.from c.gcd-divisor.result within c.if-divisor-eq1.true
    (gcd_passed c.args.row.now c.entries.walk c.entries.divisor c.entries.invariant.same c.entries.invariant.gcd _ c.in-Some.entry c.next.new.self.from c.gcd-divisor.result c.in-Some.ensures.next from c.gcd-divisor.ensures)

pub returns : goal.returns
returns c = gcd_whole c.args.row.now c.entries.walk c.entries.divisor c.entries.invariant.same c.entries.invariant.gcd c.entries.invariant.within c.in_default.ensures.next
