use Rattle.std.proofs.Common.{◌≡◌, ◌-◌, All, length}
use Rattle.net_values.specs.FlatNets.{net_of}
use Rattle.siphon_branch.specs.Held.{IsSized}
use Rattle.siphon_branch.proofs.Underway.{IsWalking}
use Rattle.siphon_branch.proofs.walk.walk.Given as goal

abbrev pub invariant-siphons : goal.invariant-siphons
invariant-siphons l = IsWalking (net_of l.net) l.fn.classes l.classes l.fn.met l.met l.fn.found l.found l.scratch.left l.end × (length l.scratch.needed ≡ (net_of l.net).places) × All (IsSized (net_of l.net)) l.scratch.spares

abbrev pub decreases-siphons : goal.decreases-siphons
decreases-siphons l = l.end - length l.met
