-- Each member continues the ones before it, or is refused.
use Rattle.std.proofs.Common.{arith, ◌<◌, length}
use Rattle.net_values.specs.FlatNets.{net_of}
use Rattle.net_replay.proofs.FiredSoFar.{none_fired, member_within, one_fired, refusal_explained, all_fired}
use Rattle.net_replay.proofs.replaying.fire_all.Goals as goal

pub loop-index-init : goal.loop-index-init
loop-index-init c = none_fired c.args.net.now c.args.list.now c.args.marking.now c.requires.initial

pub fire-requires-clause-places : goal.fire-requires-clause-places
fire-requires-clause-places c = c.loop-index.invariant.size

pub fire-requires-clause-transition : goal.fire-requires-clause-transition
fire-requires-clause-transition c =
    let more : c.loop-index.index < length c.args.list.now = omega (arith, c.loop-index-test.true, c.len-index-end.ensures) in
    member_within (net_of c.args.net.now) c.args.list.now c.loop-index.index c.get.result c.loop-index.marking more c.get.ensures c.loop-index.invariant c.requires.transitions

pub returns-in-Err-clause-fault : goal.returns-in-Err-clause-fault
returns-in-Err-clause-fault c =
    let more : c.loop-index.index < length c.args.list.now = omega (arith, c.loop-index-test.true, c.len-index-end.ensures) in
    rw c.at_member.ensures (refusal_explained (net_of c.args.net.now) c.args.list.now c.loop-index.index c.get.result c.loop-index.marking more c.get.ensures c.loop-index.invariant c.in-Err.fault c.in-Err.ensures.fault)

pub loop-index-preserved : goal.loop-index-preserved
loop-index-preserved c =
    let more : c.loop-index.index < length c.args.list.now = omega (arith, c.loop-index-test.true, c.len-index-end.ensures) in
    one_fired (net_of c.args.net.now) c.args.list.now c.loop-index.index c.get.result c.loop-index.marking more c.get.ensures c.loop-index.invariant c.fire.new.marking
    (member_within (net_of c.args.net.now) c.args.list.now c.loop-index.index c.get.result c.loop-index.marking more c.get.ensures c.loop-index.invariant c.requires.transitions)
    c.in-Ok.ensures.ok (c.in-Ok.ensures.places)

pub returns-clause-ok : goal.returns-clause-ok
returns-clause-ok c = all_fired (net_of c.args.net.now) c.args.list.now c.loop-index.index c.loop-index.marking (omega (arith, c.loop-index-test.false, c.len-index-end.ensures)) c.loop-index.invariant

pub returns-clause-places : goal.returns-clause-places
returns-clause-places c = c.loop-index.invariant.size
