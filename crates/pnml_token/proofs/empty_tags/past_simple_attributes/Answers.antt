use Rattle.std.proofs.Common.{◌<◌, length, length-set, arith, sym, ◌∙◌}
use Rattle.pnml_token.specs.Views.{view}
use Rattle.pnml_token.proofs.RawAttributes.{shrinks}
use Rattle.pnml_token.proofs.EmptyTags.{gathers_more, gathers_all}
use Rattle.pnml_token.proofs.empty_tags.past_simple_attributes.Goals as goal

pub more-smaller : goal.more-smaller
more-smaller c = shrinks c.more.rest.now (view c.in-Some.raw_attribute) c.in-Some.beyond.now (sym c.in-Some.ensures)

pub more-preserved : goal.more-preserved
more-preserved c =
    let room : c.more.count < length c.more.raw_attributes = omega (arith, c.more.invariant.0, c.more.invariant.1.few, c.if-count-eq-FEW_NAMES.false) in (
      length-set c.more.raw_attributes c.more.count c.in-Some.raw_attribute ∙ c.more.invariant.0,
      gathers_more c.more.raw_attributes c.more.count c.in-Some.raw_attribute c.more.rest.now c.in-Some.beyond.now c.args.bytes.now room (sym c.in-Some.ensures) (c.is_simple.ensures c.if-not-is_simple.false) c.more.invariant.1,
    )

pub returns-then-are_few_distinct : goal.returns-then-are_few_distinct
returns-then-are_few_distinct c =
    gathers_all c.more.raw_attributes c.more.count c.more.rest.now c.args.bytes.now (sym c.in_default.ensures) (sym c.are_few_distinct.ensures ∙ c.if-are_few_distinct.true) c.more.invariant.1
