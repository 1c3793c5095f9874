use Rattle.std.proofs.Common.{◌+◌, ◌-◌, length}
use Rattle.siphon_branch.proofs.Searching.{IsOverAll}
use Rattle.siphon_branch.proofs.list.minimal_siphons.Given as goal

abbrev pub invariant-loop-search : goal.invariant-loop-search
invariant-loop-search l = IsOverAll l.net l.sets l.search

-- while more are pending, more were met
abbrev pub decreases-loop-search : goal.decreases-loop-search
decreases-loop-search l = l.sets + 1 - length l.search.met
