-- The loop makes the attribute of each setting in turn.
use Rattle.std.proofs.Common.{◌≡◌, ◌+◌, sym, subst, drop, List}
use Rattle.std.proofs.lemmas.Result.{err_from_is_err_and}
use Rattle.pnml_grammar.specs.declared.token.Attribute.{Attribute}
use Rattle.pnml_grammar.specs.Reading.{attributes_of}
use Rattle.pnml_token.specs.Views.{views}
use Rattle.pnml_token.proofs.AttributeLists.{with_attributes, step_more, step_none, step_all}
use Rattle.pnml_token.proofs.attributes.attributes_of.Goals as goal

pub returns-in_err-attribute_of : goal.returns-in_err-attribute_of
returns-in_err-attribute_of c =
    let p = err_from_is_err_and c.from_residual.result c.from_residual.ensures.1 in
    rw (p.1, p.2)
    (step_none c.in_err-attribute_of.field-0.0 c.loop-raw_attribute.attributes c.args.raw_attributes.now c.loop-raw_attribute.raw_attribute-index _ (attributes_of (views c.args.raw_attributes.now))
    c.loop-raw_attribute-test.true c.in_err-attribute_of.ensures c.loop-raw_attribute.invariant)

pub loop-raw_attribute-preserved : goal.loop-raw_attribute-preserved
loop-raw_attribute-preserved c =
    subst (λ (front : List Attribute). with_attributes front (attributes_of (drop (c.loop-raw_attribute.raw_attribute-index + 1) (views c.args.raw_attributes.now))) ≡ attributes_of (views c.args.raw_attributes.now))
    (sym c.in_ok-push.ensures.ok)
    (step_more c.loop-raw_attribute.attributes c.args.raw_attributes.now c.loop-raw_attribute.raw_attribute-index _ c.in_ok-attribute_of.field-0 (attributes_of (views c.args.raw_attributes.now))
    c.loop-raw_attribute-test.true c.in_ok-attribute_of.ensures c.loop-raw_attribute.invariant)

pub returns : goal.returns
returns c =
    step_all c.loop-raw_attribute.attributes c.args.raw_attributes.now c.loop-raw_attribute.raw_attribute-index (attributes_of (views c.args.raw_attributes.now))
    c.loop-raw_attribute-test.false c.loop-raw_attribute.invariant
