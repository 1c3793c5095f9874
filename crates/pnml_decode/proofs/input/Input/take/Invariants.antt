-- The bytes so far were taken.
use Rattle.std.proofs.Common.{ℕ, ◌+◌, ◌-◌, ◌≤◌, List, ◌++◌, length, take}
use Rattle.pnml_decode.specs.declared.input.Input.{Input}
use Rattle.pnml_decode.specs.Standing.{Counts, IsTaken, taken_by}
use Rattle.pnml_decode.proofs.input.Input.take.Given as goal

pub record HasTaken (old new : Input) (piece : List ℕ) (count : ℕ) : Type 0 where
  pub taken : (bytes : List ℕ) → IsTaken old bytes → IsTaken new (bytes ++ take count piece)
  pub counts : Counts new
  pub within : count ≤ length piece
  pub room : taken_by new ≤ taken_by old + count

abbrev pub invariant-pieces : goal.invariant-pieces
invariant-pieces l = HasTaken l.fn.self l.self l.piece l.at

abbrev pub decreases-pieces : goal.decreases-pieces
decreases-pieces l = length l.piece - l.at
