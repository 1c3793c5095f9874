-- What was printed and the places that are left are together all places.
use Rattle.std.proofs.Common.{◌≡◌, ◌++◌, ◌-◌, decimal, length}
use Rattle.std.specs.List.{flat_map}
use Rattle.branch_resume.specs.Tokens.{places_of}
use Rattle.branch_resume.proofs.Places.{places_left}
use Rattle.branch_resume.proofs.printing.push_places.Given as goal

abbrev pub invariant-places : goal.invariant-places
invariant-places l = l.text ++ flat_map (λ p. l.piece ++ decimal p) (places_left l.set l.from) ≡ l.fn.text ++ flat_map (λ p. l.piece ++ decimal p) (places_of l.set)

abbrev pub decreases-places : goal.decreases-places
decreases-places l = length l.set - l.from
