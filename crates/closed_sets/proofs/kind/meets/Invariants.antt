use Rattle.std.proofs.Common.{◌≡◌, false, take}
use Rattle.std.specs.List.{list_any}
use Rattle.net_values.specs.declared.column.WeightedPlace.{WeightedPlace}
use Rattle.net_values.specs.PlaceSets.{has}
use Rattle.closed_sets.proofs.kind.meets.Given as goal

abbrev pub invariant-loop-entry : goal.invariant-loop-entry
invariant-loop-entry l = list_any (λ (entry : WeightedPlace). has l.set entry.place) (take l.entry-index l.entries) ≡ false
