use Rattle.siphon_branch.proofs.TrapLists.{trap_lists}
use Rattle.siphon_branch.proofs.laws.trap_lists_are_siphon_lists_reversed.Goals as goal

pub returns : goal.returns
returns c = trap_lists
