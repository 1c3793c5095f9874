use Rattle.std.proofs.Common.{take}
use Rattle.net_class.specs.Owners.{NoneIsOwned}
use Rattle.net_class.proofs.owners.first_owner.Given as goal

abbrev pub invariant-loop-entry : goal.invariant-loop-entry
invariant-loop-entry l = NoneIsOwned (take l.entry-index l.entries) l.owners
