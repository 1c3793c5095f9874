use Rattle.std.proofs.Common.{◌≡◌, ◌∙◌, ap, subst, List, Bool, length}
use Rattle.net_values.specs.FlatNets.{net_of}
use Rattle.net_values.specs.PlaceSets.{has}
use Rattle.closed_sets.specs.ClosedSets.{IsGreatestSiphon}
use Rattle.closed_sets.specs.Kinds.{seen_as}
use Rattle.closed_sets.specs.declared.kind.Kind.TheVariants.{Trap}
use Rattle.closed_sets.proofs.LeavingSets.{marked_past}
use Rattle.closed_sets.proofs.MarkedTraps.{greatest_marked}
use Rattle.closed_sets.proofs.Settling.{settles_first}
use Rattle.closed_sets.proofs.marked.has_marked_trap_from.Goals as goal

pub returns-clause-trap : goal.returns-clause-trap
returns-clause-trap c =
    let net = net_of c.args.net.now in
    let left = c.propagate.new.set in
    let found = settles_first (seen_as Trap net) c.copy_from.new.self c.close_leaving.new.set left c.close_leaving.new.fallen c.propagate.result c.close_leaving.ensures c.propagate.ensures.settled in
    let size : length left ≡ net.places = c.propagate.ensures.size ∙ c.close_leaving.ensures.size ∙ ap length c.copy_from.ensures ∙ c.requires.set in
    λ holds. record { closed = found.siphon; marked = (marked_past net left c.args.empty.now c.is_subset.result size c.requires.empty c.is_subset.ensures).0 holds }

pub returns-clause-exact : goal.returns-clause-exact
returns-clause-exact c =
    let net = net_of c.args.net.now in
    let left = c.propagate.new.set in
    let found : IsGreatestSiphon (seen_as Trap net) (has c.args.set.now) (has left) =
    subst (λ (set : List Bool). IsGreatestSiphon (seen_as Trap net) (has set) (has left)) c.copy_from.ensures
    (settles_first (seen_as Trap net) c.copy_from.new.self c.close_leaving.new.set left c.close_leaving.new.fallen c.propagate.result c.close_leaving.ensures c.propagate.ensures.settled)
    in
    let size : length left ≡ net.places = c.propagate.ensures.size ∙ c.close_leaving.ensures.size ∙ ap length c.copy_from.ensures ∙ c.requires.set in
    greatest_marked net (has c.args.set.now) (has left) _ record { trap = found.siphon; within = found.within; greatest = found.greatest }
    (marked_past net left c.args.empty.now c.is_subset.result size c.requires.empty c.is_subset.ensures)
