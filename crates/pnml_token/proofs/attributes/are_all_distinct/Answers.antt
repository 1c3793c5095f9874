-- A name is in the set just where it was seen.
use Rattle.std.proofs.Common.{ap}
use Rattle.std.specs.List.{list_any}
use Rattle.std.specs.Ordering.{is_eq, nat_cmp}
use Rattle.std.specs.Cmp.Lexicographic.{slice_cmp}
use Rattle.pnml_token.proofs.NamesSeen.{has, seen_none, seen_twice, seen_added, seen_all, not_added}
use Rattle.pnml_token.proofs.attributes.are_all_distinct.Goals as goal

pub loop-raw_attribute-init : goal.loop-raw_attribute-init
loop-raw_attribute-init c =
    seen_none (has c.new-seen.result) c.args.raw_attributes.now (λ q. ap (λ keys. list_any (λ key. is_eq (slice_cmp nat_cmp q.now key.now)) keys) c.new-seen.ensures.empty)

pub loop-raw_attribute-preserved : goal.loop-raw_attribute-preserved
loop-raw_attribute-preserved c =
    seen_added c.loop-raw_attribute.seen c.insert.new.self c.args.raw_attributes.now c.loop-raw_attribute.raw_attribute-index _ c.in_ok-insert.field-0 c.loop-raw_attribute-test.true c.loop-raw_attribute.invariant
    c.in_ok-insert.ensures.added c.if-not-branch.false c.in_ok-insert.ensures.updates.0

pub returns-then-not-branch : goal.returns-then-not-branch
returns-then-not-branch c =
    seen_twice (has c.loop-raw_attribute.seen) c.args.raw_attributes.now c.loop-raw_attribute.raw_attribute-index _ c.loop-raw_attribute-test.true c.loop-raw_attribute.invariant
    (not_added _ c.in_ok-insert.field-0 c.in_ok-insert.ensures.added c.if-not-branch.true)

pub returns : goal.returns
returns c = seen_all (has c.loop-raw_attribute.seen) c.args.raw_attributes.now c.loop-raw_attribute.raw_attribute-index c.loop-raw_attribute-test.false c.loop-raw_attribute.invariant
