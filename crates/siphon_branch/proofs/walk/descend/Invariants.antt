use Rattle.std.proofs.Common.{◌≡◌, ◌-◌, All, length}
use Rattle.net_values.specs.FlatNets.{net_of}
use Rattle.closed_sets.specs.Passes.{members}
use Rattle.siphon_branch.specs.Held.{IsSized}
use Rattle.siphon_branch.proofs.Descending.{IsDescending}
use Rattle.siphon_branch.proofs.walk.descend.Given as goal

abbrev pub invariant-class : goal.invariant-class
invariant-class l = IsDescending (net_of l.net) l.fn.class l.fn.classes l.class l.classes l.scratch.left × (l.scratch.needed ≡ l.fn.scratch.needed) × All (IsSized (net_of l.net)) l.scratch.spares

-- each step contains one place more
abbrev pub decreases-class : goal.decreases-class
decreases-class l = length l.class.contains - members l.class.contains
