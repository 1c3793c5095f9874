use Rattle.std.proofs.Common.{◌≤◌, ◌∙◌, ◌&&◌, ap, length, not, arith}
use Rattle.net_values.specs.FlatNets.{net_of}
use Rattle.net_values.specs.PlaceSets.{has}
use Rattle.closed_sets.proofs.OpenSets.{listed_all}
use Rattle.closed_sets.proofs.opens.close_takers.Goals as goal

pub returns-clause-closed : goal.returns-clause-closed
returns-clause-closed c =
    let net = net_of c.args.net.now in
    let ts = c.takers-takers.result.now in
    let past : length ts ≤ c.loop-t.t-index = omega arith in
    λ t.
    c.loop-t.invariant.1 t ∙ ap (λ b. has c.args.opens.now t && not b) (listed_all (λ u. net.pre c.args.p u) ts c.loop-t.t-index t c.takers-takers.ensures.lists past)
