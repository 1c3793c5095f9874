use Rattle.std.proofs.Common.{◌∙◌, sym, take}
use Rattle.pnml_token.proofs.NamesSeen.{is_name_of, seen_twice, front_more}
use Rattle.pnml_token.proofs.attributes.are_few_distinct.Goals as goal

pub returns-then-is_name_of : goal.returns-then-is_name_of
returns-then-is_name_of c =
    seen_twice (is_name_of (take c.loop-i.i c.args.raw_attributes.now)) c.args.raw_attributes.now c.loop-i.i _ c.loop-i-test.true c.loop-i.invariant (sym c.is_name_of.ensures ∙ c.if-is_name_of.true)

pub loop-i-preserved : goal.loop-i-preserved
loop-i-preserved c =
    front_more c.args.raw_attributes.now c.loop-i.i _ c.loop-i-test.true c.loop-i.invariant (sym c.is_name_of.ensures ∙ c.if-is_name_of.false)
