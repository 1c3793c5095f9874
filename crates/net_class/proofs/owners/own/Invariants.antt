use Rattle.std.proofs.Common.{◌≡◌, ℕ, ◌==◌, Some, length, take, if◌then◌else◌}
use Rattle.std.specs.List.{list_any}
use Rattle.net_values.specs.declared.column.WeightedPlace.{WeightedPlace}
use Rattle.net_class.specs.Owners.{owner_at}
use Rattle.net_class.proofs.owners.own.Given as goal

abbrev pub invariant-loop-entry : goal.invariant-loop-entry
invariant-loop-entry l =
    (length l.owners ≡ length l.fn.owners) × ((p : ℕ) → owner_at l.owners p ≡ (if list_any (λ (entry : WeightedPlace). entry.place == p) (take l.entry-index l.entries) then Some l.t else owner_at l.fn.owners p))
