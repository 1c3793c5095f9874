use Rattle.std.proofs.Common.{subst, List, Bool}
use Rattle.net_values.specs.FlatNets.{net_of}
use Rattle.net_values.specs.PlaceSets.{has}
use Rattle.closed_sets.specs.ClosedSets.{IsGreatestSiphon}
use Rattle.closed_sets.specs.Kinds.{seen_as}
use Rattle.closed_sets.specs.declared.kind.Kind.TheVariants.{Trap}
use Rattle.closed_sets.proofs.MarkedTraps.{greatest_marked}
use Rattle.closed_sets.proofs.marked.has_marked_trap.Goals as goal

pub returns-clause-exact : goal.returns-clause-exact
returns-clause-exact c =
    let net = net_of c.args.net.now in
    let left = c.greatest.new.set in
    let found : IsGreatestSiphon (seen_as Trap net) (has c.args.set.now) (has left) = subst (λ (set : List Bool). IsGreatestSiphon (seen_as Trap net) (has set) (has left)) c.copy_from.ensures c.greatest.ensures.greatest in
    greatest_marked net (has c.args.set.now) (has left) c.is_marked.result record { trap = found.siphon; within = found.within; greatest = found.greatest } c.is_marked.ensures
