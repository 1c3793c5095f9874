use Rattle.std.proofs.Common.{rules}
use Rattle.net_values.specs.FlatNets.{net_of}
use Rattle.closed_sets.specs.Commoner.{MeetsCommoner}
use Rattle.net_class.specs.Classes.{IsFreeChoice}
use Rattle.free_choice_live.proofs.LostTransitions.{commoner_is_live}
use Rattle.free_choice_live.proofs.liveness.live.Goals as goal

pub returns-in-Yes-clause-live : goal.returns-in-Yes-clause-live
returns-in-Yes-clause-live c =
    let choice : IsFreeChoice (net_of c.args.net.now) = search rules in
    let meets : MeetsCommoner (net_of c.args.net.now) = search rules in
    λ _. commoner_is_live (net_of c.args.net.now) choice meets
