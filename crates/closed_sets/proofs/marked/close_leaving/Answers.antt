use Rattle.std.proofs.Common.{Bool, inl, inr, arith}
use Rattle.std.proofs.lemmas.Bool.{cases_lt, both_ways}
use Rattle.std.proofs.lemmas.List.Sums.{count_by-le-length}
use Rattle.net_values.specs.FlatNets.{net_of}
use Rattle.net_values.specs.PlaceSets.{has}
use Rattle.closed_sets.specs.Kinds.{seen_as}
use Rattle.closed_sets.specs.declared.kind.Kind.TheVariants.{Trap}
use Rattle.closed_sets.proofs.LeavingSets.{closed_none, closed_more, closed_all}
use Rattle.closed_sets.proofs.marked.close_leaving.Goals as goal

pub loop-from-init : goal.loop-from-init
loop-from-init c = rw (c.requires.none) (closed_none (seen_as Trap (net_of c.args.net.now)) c.args.leaving.now c.args.set.now c.requires.leaving.exact)

pub loop-from-preserved : goal.loop-from-preserved
loop-from-preserved c =
    closed_more (seen_as Trap (net_of c.args.net.now)) c.args.leaving.now c.args.set.now c.loop-from.set c.close.new.set c.loop-from.fallen c.close.new.fallen c.loop-from.from c.in-Some.t c.close.result c.loop-from.invariant c.in-Some.ensures c.close.ensures.closed

pub close-requires-clause-transition : goal.close-requires-clause-transition
close-requires-clause-transition c =
    elim (cases_lt c.in-Some.t (net_of c.args.net.now).transitions) [
      | inl below ↦ below
      | inr past ↦ absurd (both_ways (has c.args.leaving.now c.in-Some.t) (c.requires.leaving.past c.in-Some.t (omega arith)) c.in-Some.ensures.member)
    ]

pub close-requires-clause-few : goal.close-requires-clause-few
close-requires-clause-few c = omega (arith, c.transitions.ensures.limits.places)

pub close-requires-clause-room : goal.close-requires-clause-room
close-requires-clause-room c =
    omega (arith, c.loop-from.invariant.falls.count, c.transitions.ensures.limits.places, c.requires.size, count_by-le-length (λ (b : Bool). b) c.args.set.now)

pub returns-in_default : goal.returns-in_default
returns-in_default c =
    closed_all (seen_as Trap (net_of c.args.net.now)) c.args.leaving.now c.args.set.now c.loop-from.set c.loop-from.fallen c.loop-from.from c.requires.size
    (omega (arith, c.transitions.ensures.limits.places)) (count_by-le-length (λ (b : Bool). b) c.args.set.now) c.in_default.ensures c.loop-from.invariant

pub returns : goal.returns
returns c =
    closed_all (seen_as Trap (net_of c.args.net.now)) c.args.leaving.now c.args.set.now c.loop-from.set c.loop-from.fallen c.loop-from.from c.requires.size
    (omega (arith, c.transitions.ensures.limits.places)) (count_by-le-length (λ (b : Bool). b) c.args.set.now)
    (λ t past. c.requires.leaving.past t (let count = c.transitions.ensures.value in let over = c.loop-from-test.false in omega arith)) c.loop-from.invariant
