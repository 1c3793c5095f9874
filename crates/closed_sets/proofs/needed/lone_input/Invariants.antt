use Rattle.closed_sets.proofs.NeededPlaces.{HasLone}
use Rattle.closed_sets.proofs.needed.lone_input.Given as goal

abbrev pub invariant-loop-entry : goal.invariant-loop-entry
invariant-loop-entry l = HasLone l.set l.inputs l.entry-index l.lone
