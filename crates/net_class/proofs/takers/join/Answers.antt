use Rattle.std.proofs.Common.{arith}
use Rattle.net_values.specs.FlatNets.{net_of}
use Rattle.net_class.specs.Classes.{HaveSameInputs}
use Rattle.net_class.proofs.Walks.{shares, compared, owns, same_inputs_on_itself}
use Rattle.net_class.proofs.takers.join.Goals as goal

pub have_same_inputs-requires-clause-second : goal.have_same_inputs-requires-clause-second
have_same_inputs-requires-clause-second c =
    let net = net_of c.args.net.now in
    let share = shares net net.pre (HaveSameInputs net) c.args.t _ c.arcs-inputs.result.now c.args.owners.now c.requires.owners c.arcs-inputs.ensures c.in-Some.ensures in
    omega (arith, share.earlier, c.requires.transition)

pub returns-in-Some : goal.returns-in-Some
returns-in-Some c =
    let net = net_of c.args.net.now in
    let share = shares net net.pre (HaveSameInputs net) c.args.t _ c.arcs-inputs.result.now c.args.owners.now c.requires.owners c.arcs-inputs.ensures c.in-Some.ensures in
    compared net c.args.t _ c.args.owners.now c.have_same_inputs.result c.requires.transition c.requires.owners share c.have_same_inputs.ensures

pub returns-in-None : goal.returns-in-None
returns-in-None c =
    let net = net_of c.args.net.now in
    owns net net.pre (HaveSameInputs net) c.args.t c.arcs-inputs.result.now c.args.owners.now _ c.requires.owners c.arcs-inputs.ensures c.in-None.ensures c.own.ensures (same_inputs_on_itself net c.args.t)
