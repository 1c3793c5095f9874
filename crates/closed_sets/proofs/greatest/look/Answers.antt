use Rattle.std.proofs.Common.{Bool, arith}
use Rattle.std.proofs.lemmas.List.Sums.{count_by-le-length}
use Rattle.net_values.specs.FlatNets.{net_of}
use Rattle.closed_sets.specs.Kinds.{seen_as}
use Rattle.closed_sets.proofs.Firsts.{none_past}
use Rattle.closed_sets.proofs.Settling.{looked_more, looked_all}
use Rattle.closed_sets.proofs.greatest.look.Goals as goal

pub loop-from-preserved : goal.loop-from-preserved
loop-from-preserved c =
    let net = seen_as c.args.kind (net_of c.args.net.now) in
    looked_more net c.args.set.now c.loop-from.set c.close_all.new.set c.loop-from.fallen c.close_all.new.fallen c.loop-from.from c.in-Some.p c.givers.result.now c.close_all.result c.loop-from.invariant c.in-Some.ensures c.givers.ensures.lists c.close_all.ensures.closed

pub returns-in_default : goal.returns-in_default
returns-in_default c =
    let net = seen_as c.args.kind (net_of c.args.net.now) in
    looked_all net c.args.set.now c.loop-from.set c.loop-from.fallen c.loop-from.from c.requires.size (omega (arith, c.places.ensures.limits.places)) (count_by-le-length (λ (b : Bool). b) c.args.set.now) c.in_default.ensures c.loop-from.invariant

pub returns : goal.returns
returns c =
    let net = seen_as c.args.kind (net_of c.args.net.now) in
    let none = none_past c.loop-from.set c.loop-from.from (let count = c.places.ensures.value in let size = c.requires.size in let kept = c.loop-from.invariant.falls.size in let over = c.loop-from-test.false in omega arith) in
    looked_all net c.args.set.now c.loop-from.set c.loop-from.fallen c.loop-from.from c.requires.size (omega (arith, c.places.ensures.limits.places)) (count_by-le-length (λ (b : Bool). b) c.args.set.now) none c.loop-from.invariant
