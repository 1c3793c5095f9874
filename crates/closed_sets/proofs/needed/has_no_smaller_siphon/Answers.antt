use Rattle.std.proofs.Common.{◌<◌, arith}
use Rattle.std.proofs.lemmas.Bool.{both_ways, false≢true, not-true, not_from_false}
use Rattle.net_values.specs.FlatNets.{net_of}
use Rattle.net_values.specs.PlaceSets.{has}
use Rattle.closed_sets.proofs.SmallerSiphons.{minimal_without, nonempty_not}
use Rattle.closed_sets.proofs.NeededPlaces.{lowest_decides}
use Rattle.closed_sets.proofs.needed.has_no_smaller_siphon.Goals as goal

pub returns-in_default-clause-exact : goal.returns-in_default-clause-exact
returns-in_default-clause-exact c =
    let net = net_of c.args.net.now in
    let empty = nonempty_not net (has c.args.set.now) (λ p. c.in_default.ensures p (omega arith)) c.requires.some in
    absurd empty

pub returns-then-not-is_empty-clause-exact : goal.returns-then-not-is_empty-clause-exact
returns-then-not-is_empty-clause-exact c =
    let net = net_of c.args.net.now in
    let below : c.in-Some.lowest < net.places = let within = c.in-Some.ensures.below_size in let size = c.requires.set in omega arith in
    let decides = lowest_decides net c.args.set.now c.copy_from.new.self c.leave_out.new.set c.in-Some.lowest c.leave_out.result c.is_empty.result c.copy_from.ensures c.requires.set below c.leave_out.ensures.left c.is_empty.ensures in (
      λ never. absurd (false≢true never),
      λ minimal. absurd (minimal_without net (has c.args.set.now) c.in-Some.lowest below c.in-Some.ensures.member (decides.0 (not_from_false c.is_empty.result c.if-not-is_empty.true)) minimal),
    )

pub need-requires-clause-place : goal.need-requires-clause-place
need-requires-clause-place c =
    let net = net_of c.args.net.now in
    let below : c.in-Some.lowest < net.places = let within = c.in-Some.ensures.below_size in let size = c.requires.set in omega arith in
    let decides = lowest_decides net c.args.set.now c.copy_from.new.self c.leave_out.new.set c.in-Some.lowest c.leave_out.result c.is_empty.result c.copy_from.ensures c.requires.set below c.leave_out.ensures.left c.is_empty.ensures in
    record {
      member = c.in-Some.ensures.member;
      none = λ smaller. both_ways c.is_empty.result (not-true c.is_empty.result (decides.1 smaller)) c.if-not-is_empty.false;
    }
