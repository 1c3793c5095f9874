use Rattle.incidence.proofs.TableLemmas.{sides_incidence, equal_matrices}
use Rattle.incidence.proofs.incidence.Incidence.of.Goals as goal

pub invariant_of-result : goal.invariant_of-result
invariant_of-result c = sides_incidence c.args.net.now _ _ c.table.ensures.limits c.in_ok-table.ensures.side c.in_ok-table-2.ensures.side

pub returns : goal.returns
returns c =
    let gains = c.in_ok-table.ensures.side in
    let losses = c.in_ok-table-2.ensures.side in
    equal_matrices _ _ gains.height gains.width gains.excess losses.excess
