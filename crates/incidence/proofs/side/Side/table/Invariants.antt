use Rattle.std.proofs.Common.{◌≡◌, ℕ, ◌<◌, ◌≤◌, length}
use Rattle.net_values.specs.FlatNets.{net_of}
use Rattle.incidence.specs.Excess.{excess_of}
use Rattle.incidence.specs.Tables.{at}
use Rattle.incidence.proofs.side.Side.table.Given as goal

abbrev pub invariant-loop-t : goal.invariant-loop-t
invariant-loop-t l = record {
  height : l.table.height ≡ (net_of l.net).places;
  width : length l.table.lists ≡ (net_of l.net).transitions;
  done : (p u : ℕ) → u < l.t → at l.table p u ≡ excess_of l.self (net_of l.net) p u;
  rest : (p u : ℕ) → l.t ≤ u → at l.table p u ≡ 0;
}
