use Rattle.std.proofs.Common.{ℕ, ◌<◌, IsTrue, get_or}
use Rattle.net_values.specs.FlatNets.{net_of}
use Rattle.net_values.specs.PlaceSets.{has}
use Rattle.closed_sets.specs.LoneInputs.{IsLoneInput}
use Rattle.closed_sets.specs.Needed.{NeedsMore}
use Rattle.closed_sets.proofs.needed.need_inputs.Given as goal

abbrev pub invariant-loop-t : goal.invariant-loop-t
invariant-loop-t l = record {
  more : NeedsMore (net_of l.net) l.set l.fn.needed l.needed l.fn.fallen l.fallen;
  each : (k q : ℕ) → k < l.t-index → IsLoneInput (net_of l.net) l.set (get_or l.givers k 0) q → IsTrue (has l.needed q);
}
