-- Devices in memory, whose calls are numbered from 0. Which calls fail and how many bytes each of the
-- others moves is given beforehand.
use Rattle.std.specs.Prelude.{ℕ, ◌-◌, ◌%◌, ◌==◌, ◌&&◌, not, min, max, Bool, List, [], ◌∷◌, length, slice_index}
use Rattle.std.specs.List.{list_any}
use Rattle.pnml_source.specs.Causes.{next_number}

-- how a device cuts its calls and which of them fail, the number of its next call, and its faults so far
pub record Schedule : Type 0 where
  pub pieces : List ℕ
  pub failing : List ℕ
  pub call : ℕ
  pub faults : ℕ

-- before the first call
abbrev pub before_calls : List ℕ → List ℕ → Schedule
before_calls pieces failing = record { pieces = pieces; failing = failing; call = 0; faults = 0 }

-- after a call that moved bytes
abbrev pub after_call : Schedule → Schedule
after_call schedule = record schedule { call = next_number schedule.call }

-- after a call that failed
abbrev pub after_fault : Schedule → Schedule
after_fault schedule = record schedule { call = next_number schedule.call; faults = next_number schedule.faults }

-- whether the next call is one of those that fail
abbrev pub is_failing : Schedule → Bool
is_failing schedule = list_any (λ k. k == schedule.call) schedule.failing

-- how many of n bytes the call with this number moves: at most its entry, where the entries are taken in turn
-- and 0 counts as 1; without entries there is no limit
abbrev pub within_piece : List ℕ → ℕ → ℕ → ℕ
within_piece [] call n = n
within_piece (first ∷ others) call n = min n (max 1 (slice_index (first ∷ others) (call % length (first ∷ others))))

-- how many of n bytes the next call moves
abbrev pub bytes_moved : Schedule → ℕ → ℕ
bytes_moved schedule n = within_piece schedule.pieces schedule.call n

-- a source in memory: the bytes left, and the most room that a call has had so far
pub record MemoryInput : Type 0 where
  pub left : List ℕ
  pub schedule : Schedule
  pub largest : ℕ

-- a sink in memory: the bytes held, and the most that it can hold
pub record MemoryOutput : Type 0 where
  pub held : List ℕ
  pub room : ℕ
  pub schedule : Schedule

-- how many bytes the next call of a source puts into a buffer with this room
abbrev pub bytes_given : MemoryInput → ℕ → ℕ
bytes_given input room = bytes_moved input.schedule (min (length input.left) room)

-- how many bytes the next call of a sink takes of this many
abbrev pub bytes_taken : MemoryOutput → ℕ → ℕ
bytes_taken output offered = bytes_moved output.schedule (min (output.room - length output.held) offered)

-- whether there is something to take and the sink has no room for it
abbrev pub meets_full : MemoryOutput → List ℕ → Bool
meets_full output piece = (output.room - length output.held) == 0 && not (length piece == 0)
