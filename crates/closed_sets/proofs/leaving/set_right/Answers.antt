use Rattle.std.proofs.Common.{◌<◌, ◌∙◌, get_or, length, length-set, arith}
use Rattle.net_values.specs.FlatNets.{net_of}
use Rattle.closed_sets.proofs.LeavingSets.{looked_at_more, looked_at_all}
use Rattle.closed_sets.proofs.leaving.set_right.Goals as goal

pub loop-t-preserved : goal.loop-t-preserved
loop-t-preserved c =
    let net = net_of c.args.net.now in
    let ts = c.args.transitions.now in
    let i = c.loop-t.t-index in
    let within : i < length ts = omega arith in
    let below : get_or ts i 0 < net.transitions = c.requires.transitions i 0 within in
    rw (c.put.ensures) (
      length-set c.loop-t.leaving (get_or ts i 0) c.is_open.result ∙ c.loop-t.invariant.0,
      looked_at_more net ts i c.args.set.now c.args.leaving.now c.loop-t.leaving c.is_open.result within below (omega (arith, c.loop-t.invariant.0, c.requires.room)) c.is_open.ensures c.loop-t.invariant.1,
    )

pub returns-clause-right : goal.returns-clause-right
returns-clause-right c =
    looked_at_all (net_of c.args.net.now) c.args.transitions.now c.loop-t.t-index c.args.set.now c.args.leaving.now c.loop-t.leaving (omega arith) c.loop-t.invariant.1
