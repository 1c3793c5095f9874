use Rattle.std.proofs.Common.{◌≡◌, ℕ, length, sum_by, take}
use Rattle.net_values.specs.FlatNets.{net_of}
use Rattle.incidence.specs.Excess.{back_of}
use Rattle.incidence.specs.Tables.{at}
use Rattle.incidence.proofs.Entries.{left_at}
use Rattle.incidence.proofs.side.Side.fill.Given as goal

abbrev pub invariant-loop-arc : goal.invariant-loop-arc
invariant-loop-arc l = record {
  height : l.table.height ≡ l.initial.table.height;
  width : length l.table.lists ≡ length l.initial.table.lists;
  here : (p : ℕ) → at l.table p l.t ≡ sum_by (left_at (λ q. back_of l.self (net_of l.net) q l.t) p) (take l.arc-index l.arcs);
  others : (p u : ℕ) → (u ≡ l.t → ⊥) → at l.table p u ≡ at l.initial.table p u;
}
