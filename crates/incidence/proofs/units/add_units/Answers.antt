-- The row of a transition is empty before its 1 is added.
use Rattle.std.proofs.Common.{◌≡◌, ◌+◌, ◌<◌, ◌^◌, ◌∙◌, subst, sym}
use Rattle.net_values.specs.FlatNets.{net_of}
use Rattle.incidence.specs.Tables.{at}
use Rattle.incidence.proofs.Extending.{unit_fits}
use Rattle.incidence.proofs.units.add_units.Goals as goal

pub add-requires-clause-narrow : goal.add-requires-clause-narrow
add-requires-clause-narrow c =
    let same : (net_of c.args.net.now).places ≡ c.height-places.result = sym (c.height-places.ensures.value ∙ c.requires.height) in
    subst (λ n. at c.loop-t.table (n + c.loop-t.t) c.loop-t.t + 1 < 2 ^ 127) same
    (unit_fits c.args.table.now c.loop-t.table (net_of c.args.net.now) c.loop-t.t c.height-places.ensures.table c.requires.height c.loop-t.invariant)
