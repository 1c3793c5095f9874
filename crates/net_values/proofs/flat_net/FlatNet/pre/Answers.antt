use Rattle.std.proofs.Common.{arith}
use Rattle.net_values.proofs.FlatNets.{inputs_of, read_narrow}
use Rattle.net_values.proofs.flat_net.FlatNet.pre.Goals as goal

pub returns-clause-bound : goal.returns-clause-bound
returns-clause-bound c =
    let within = rw (← c.self.view_is) at c.requires.transition in
    let narrow = read_narrow inputs_of _ _ _ _ c.args.p _ c.self.invariant.net.pre c.self.invariant.net.arcs within c.index.ensures in
    omega (arith, c.weight.ensures, narrow)
