use Rattle.std.proofs.Common.{arith, sym}
use Rattle.pnml_token.specs.Views.{view}
use Rattle.pnml_token.proofs.AscendingTags.{rises_more, rises_all}
use Rattle.pnml_token.proofs.RawAttributes.{shrinks}
use Rattle.pnml_token.proofs.empty_tags.past_ascending_attributes.Goals as goal

pub more-smaller : goal.more-smaller
more-smaller c = shrinks c.more.rest.now (view c.in-Some.raw_attribute) c.in-Some.beyond.now (sym c.in-Some.ensures)

pub more-preserved : goal.more-preserved
more-preserved c =
    rises_more c.more.rest.now c.in-Some.beyond.now c.args.bytes.now (view c.in-Some.raw_attribute) c.more.last c.rank-next.result (sym c.in-Some.ensures) (c.is_simple.ensures c.if-not-is_simple.false) (omega (arith, c.if-next-last.false))
    c.rank-next.ensures c.more.invariant

pub returns : goal.returns
returns c = rises_all c.more.rest.now c.args.bytes.now c.more.last (sym c.in_default.ensures) c.more.invariant
