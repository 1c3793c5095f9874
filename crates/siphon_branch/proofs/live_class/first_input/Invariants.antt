use Rattle.std.proofs.Common.{◌≡◌, ◌<◌, ℕ, false, get_or}
use Rattle.net_values.specs.PlaceSets.{has}
use Rattle.net_values.proofs.TokenCounts.{nowhere}
use Rattle.siphon_branch.proofs.live_class.first_input.Given as goal

abbrev pub invariant-loop-entry : goal.invariant-loop-entry
invariant-loop-entry l = (k : ℕ) → k < l.entry-index → has l.set (get_or l.inputs k nowhere).place ≡ false
