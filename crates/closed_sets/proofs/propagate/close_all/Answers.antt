use Rattle.net_values.specs.FlatNets.{net_of}
use Rattle.closed_sets.specs.Kinds.{seen_as}
use Rattle.closed_sets.proofs.Settling.{closes_none, closes_more, loses_before}
use Rattle.closed_sets.proofs.propagate.close_all.Goals as goal

pub loop-t-init : goal.loop-t-init
loop-t-init c = closes_none (seen_as c.args.kind (net_of c.args.net.now)) c.args.guard c.args.transitions.now c.args.set.now c.args.fallen.now

pub returns-then-not-close-clause-closed : goal.returns-then-not-close-clause-closed
returns-then-not-close-clause-closed c =
    loses_before (seen_as c.args.kind (net_of c.args.net.now)) c.args.guard c.args.transitions.now c.loop-t.t-index c.args.set.now c.loop-t.set c.args.fallen.now c.loop-t.fallen c.loop-t.invariant c.if-not-close.ensures.closed

pub loop-t-preserved : goal.loop-t-preserved
loop-t-preserved c =
    closes_more (seen_as c.args.kind (net_of c.args.net.now)) c.args.guard c.args.transitions.now c.loop-t.t-index c.args.set.now c.loop-t.set c.close.new.set c.args.fallen.now c.loop-t.fallen c.close.new.fallen c.loop-t.invariant c.if-not-close.ensures.closed
