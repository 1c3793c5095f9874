use Rattle.std.proofs.Common.{arith}
use Rattle.pnml_token.proofs.RankLaws.{ascends_more}
use Rattle.pnml_token.proofs.ranks.do_ascend.Goals as goal

pub loop-raw_attribute-preserved : goal.loop-raw_attribute-preserved
loop-raw_attribute-preserved c =
    ascends_more c.args.raw_attributes.now c.loop-raw_attribute.raw_attribute-index c.loop-raw_attribute.last c.rank-next.result _ c.loop-raw_attribute-test.true (omega (arith, c.if-next-last.false)) c.rank-next.ensures c.loop-raw_attribute.invariant
