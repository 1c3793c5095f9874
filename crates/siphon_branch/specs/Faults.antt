-- Why a search gives no list.
use Rattle.std.specs.Prelude.{ℕ}
use Rattle.net_values.specs.Net.{Net}
use Rattle.siphon_branch.specs.declared.fault.SetFault.{SetFault}
use Rattle.siphon_branch.specs.declared.fault.SetFault.TheVariants.{NoMemory, SetLimit}
use Rattle.siphon_branch.specs.Limits.{PassesLimit}

-- the net has more grown siphons than the limit, and one more than that are carried; out of memory may
-- come at any time
abbrev pub FailsToList : Net → ℕ → SetFault → Type 0
FailsToList net sets NoMemory = Unit {0}
FailsToList net sets (SetLimit carried) = PassesLimit net sets carried
