use Rattle.pnml_token.proofs.RankLaws.{Ascends}
use Rattle.pnml_token.proofs.ranks.do_ascend.Given as goal

abbrev pub invariant-loop-raw_attribute : goal.invariant-loop-raw_attribute
invariant-loop-raw_attribute l = Ascends l.raw_attributes l.raw_attribute-index l.last
