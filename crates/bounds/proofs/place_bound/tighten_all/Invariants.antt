-- the places that were passed have what the row leaves them, and the others what they had
use Rattle.std.proofs.Common.{◌≡◌, ◌-◌, ◌≤◌, length}
use Rattle.bounds.proofs.Tightening.{AreTightened}
use Rattle.bounds.proofs.place_bound.tighten_all.Given as goal

abbrev pub invariant-places : goal.invariant-places
invariant-places l =
    record {
      same : l.walk.entries ≡ l.entries;
      within : l.walk.from ≤ length l.entries;
      kept : AreTightened l.fn.kept l.kept l.entries l.tokens l.row l.walk.from;
    }

abbrev pub decreases-places : goal.decreases-places
decreases-places l = length l.entries - l.walk.from
