-- The bytes before `at` were taken, and no fault was counted.
use Rattle.std.proofs.Common.{◌≡◌, ℕ, ◌-◌, ◌≤◌, List, length, take, Option}
use Rattle.std.specs.Io.KnownBytes.{Appends}
use Rattle.pnml_source.proofs.writing.write_all.Given as goal

pub record WroteFront (old new : Option (List ℕ)) (before now at : ℕ) (bytes : List ℕ) : Type 0 where
  pub written : Appends old new (take at bytes)
  pub kept : now ≡ before
  pub within : at ≤ length bytes

abbrev pub invariant-loop-at : goal.invariant-loop-at
invariant-loop-at g l =
    WroteFront (g.O.Sink.held l.initial.sink) (g.O.Sink.held l.sink) (g.O.Sink.faults l.initial.sink) (g.O.Sink.faults l.sink) l.at l.bytes

abbrev pub decreases-loop-at : goal.decreases-loop-at
decreases-loop-at g l = length l.bytes - l.at
