use Rattle.std.proofs.Common.{arith}
use Rattle.net_values.proofs.FlatNets.{outputs_of, read_narrow}
use Rattle.net_values.proofs.flat_net.FlatNet.post.Goals as goal

pub returns-clause-bound : goal.returns-clause-bound
returns-clause-bound c =
    let within = rw (← c.self.view_is) at c.requires.transition in
    let narrow = read_narrow outputs_of _ _ _ _ c.args.p _ c.self.invariant.net.post c.self.invariant.net.arcs within c.index.ensures in
    omega (arith, c.weight.ensures, narrow)
