use Rattle.std.proofs.Common.{arith}
use Rattle.net_values.specs.FlatNets.{net_of}
use Rattle.closed_sets.proofs.OpenSets.{found_none, found_more, found_all}
use Rattle.closed_sets.proofs.opens.find_open.Goals as goal

pub loop-t-init : goal.loop-t-init
loop-t-init c = found_none (net_of c.args.net.now) c.args.set.now c.args.opens.now c.requires.open

pub loop-t-preserved : goal.loop-t-preserved
loop-t-preserved c =
    rw (c.put.ensures) (found_more (net_of c.args.net.now) c.args.set.now c.loop-t.opens c.loop-t.t c.is_open.result (omega arith) c.is_open.ensures c.loop-t.invariant)

pub returns : goal.returns
returns c = found_all (net_of c.args.net.now) c.args.set.now c.loop-t.opens c.loop-t.t (omega arith) c.loop-t.invariant
