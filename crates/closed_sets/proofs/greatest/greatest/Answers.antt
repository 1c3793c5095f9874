use Rattle.net_values.specs.FlatNets.{net_of}
use Rattle.closed_sets.specs.Kinds.{seen_as}
use Rattle.closed_sets.proofs.Settling.{falling_from, settles_first}
use Rattle.closed_sets.proofs.greatest.greatest.Goals as goal

pub returns-clause-greatest : goal.returns-clause-greatest
returns-clause-greatest c =
    let net = seen_as c.args.kind (net_of c.args.net.now) in
    settles_first net c.args.set.now c.look.new.set c.propagate.new.set c.look.new.fallen c.propagate.result c.look.ensures c.propagate.ensures.settled

pub propagate-requires-clause-falling : goal.propagate-requires-clause-falling
propagate-requires-clause-falling c = falling_from (seen_as c.args.kind (net_of c.args.net.now)) _ c.args.set.now c.look.new.set c.look.new.fallen c.look.ensures
