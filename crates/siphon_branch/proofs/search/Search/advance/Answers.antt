use Rattle.std.proofs.Common.{arith}
use Rattle.siphon_branch.proofs.search.Search.advance.Goals as goal

pub invariant_of-self-2 : goal.invariant_of-self-2
invariant_of-self-2 c = record {
  underway = c.in_ok-rest.ensures.ok.kept c.self.inside.origin c.self.invariant.underway;
  alone = c.in_ok-rest.ensures.ok.alone;
  room = omega (arith, c.in_ok-rest.ensures.ok.within, c.min-end.ensures);
  short = c.self.invariant.short;
}
