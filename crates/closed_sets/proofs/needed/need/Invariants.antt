use Rattle.std.proofs.Common.{◌≡◌, ◌≤◌, ◌+◌, ◌-◌, ℕ, IsTrue, Contains, length}
use Rattle.net_values.specs.FlatNets.{net_of}
use Rattle.net_values.specs.PlaceSets.{has}
use Rattle.closed_sets.specs.Needed.{AreNeeded, IsNeeded}
use Rattle.closed_sets.specs.Passes.{members}
use Rattle.closed_sets.proofs.needed.need.Given as goal

abbrev pub invariant-listed : goal.invariant-listed
invariant-listed l = record {
  size : length l.needed ≡ length l.fn.needed;
  marked : AreNeeded (net_of l.net) l.set l.needed;
  place : IsTrue (has l.needed l.p);
  listed : (q : ℕ) → Contains l.fallen q → IsNeeded (net_of l.net) l.set q;
  few : length l.fallen ≤ members l.needed;
}

-- each place is marked and listed once
abbrev pub decreases-listed : goal.decreases-listed
decreases-listed l = length l.fallen + (length l.needed - members l.needed)
