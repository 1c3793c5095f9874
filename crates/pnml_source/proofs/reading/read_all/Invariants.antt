-- The bytes so far are those that the source gave, and no fault was counted.
use Rattle.std.proofs.Common.{◌≡◌, ℕ, ◌+◌, ◌-◌, ◌≤◌, ◌<◌, List, vec_len, Option}
use Rattle.std.specs.Io.KnownBytes.{Consumes}
use Rattle.pnml_source.proofs.reading.read_all.Given as goal

pub record ReadFront (old new : Option (List ℕ)) (before now : ℕ) (bytes : List ℕ) (count limit size : ℕ) : Type 0 where
  pub read : Consumes old new bytes
  pub kept : now ≡ before
  pub within : count ≤ limit
  pub room : 0 < size

abbrev pub invariant-pieces : goal.invariant-pieces
invariant-pieces g l =
    ReadFront (g.S.Source.left l.initial.source) (g.S.Source.left l.source) (g.S.Source.faults l.initial.source)
    (g.S.Source.faults l.source) l.bytes.items (vec_len l.bytes) l.limit (vec_len l.buffer)

abbrev pub decreases-pieces : goal.decreases-pieces
decreases-pieces g l = l.limit + 1 - vec_len l.bytes
