use Rattle.std.proofs.Common.{◌≡◌, ◌*◌, ◌<◌, ◌^◌, slice_index, sum_by, take}
use Rattle.net_values.specs.declared.column.WeightedPlace.{WeightedPlace}
use Rattle.net_values.specs.FlatNets.{net_of}
use Rattle.incidence.specs.Excess.{back_of}
use Rattle.incidence.proofs.Entries.{left_of}
use Rattle.incidence.proofs.side.Side.weighted_sum.Given as goal

abbrev pub invariant-loop-arc : goal.invariant-loop-arc
invariant-loop-arc l = record {
  total : l.total ≡ sum_by (λ (arc : WeightedPlace). slice_index l.factors arc.place * left_of (λ q. back_of l.self (net_of l.net) q l.t) arc) (take l.arc-index l.arcs);
  narrow : l.total < 2 ^ 127;
}
