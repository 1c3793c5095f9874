-- A whole run, by what its devices told before and after it. This is what the program promises.
use Rattle.std.specs.Prelude.{◌≡◌, ◌≢◌, ◌⊎◌, ℕ, ◌+◌, ◌≤◌, ◌<◌, List, length, Option}
use Rattle.std.specs.Io.KnownBytes.{Consumes, Appends, Keeps, IsAtEnd}
use Rattle.net_values.specs.declared.limits.TheConstants.{MAX_INPUT_BYTES}
use Rattle.pnml_source.specs.Causes.{Rose}
use Rattle.pnml_source.specs.Streams.{AppendsFront, TakesAtMost, TakesExactly}
use Rattle.struct_core.specs.declared.order.Order.{Order}
use Rattle.struct_core.specs.declared.order.Order.TheVariants.{Run, Sample}
use Rattle.struct_core.specs.Words.{Means}
use Rattle.report.specs.FaultLines.{usage_line, length_line, read_line, write_line, memory_line}
use Rattle.struct_core.specs.Outcome.{Outcome}

-- a device as it is told: the bytes that it has left or holds, where it tells them, and its count of faults
pub record Device : Type 0 where
  pub bytes : Option (List ℕ)
  pub faults : ℕ

abbrev pub device : Option (List ℕ) → ℕ → Device
device bytes faults = record { bytes = bytes; faults = faults }

-- nothing happened to a device
pub record IsUntouched (old new : Device) : Type 0 where
  pub bytes : Keeps old.bytes new.bytes
  pub faults : new.faults ≡ old.faults

-- a sink holds what it held and then this line, or, where its count tells a fault, a prefix of the line
abbrev pub Says : Device → Device → List ℕ → Type 0
Says old new line =
    Appends old.bytes new.bytes line ⊎ (Rose old.faults new.faults × AppendsFront old.bytes new.bytes line)

-- the statuses of runs that have an outcome: all but usage, too long, read fault and out of memory
abbrev pub IsAnswered : ℕ → Type 0
IsAnswered status = (status ≢ 2) × (status ≢ 7) × (status ≢ 8) × (status ≢ 10)

-- the statuses that have a line of their own, whatever the input
abbrev pub HasOwnLine : ℕ → Type 0
HasOwnLine status = (status ≡ 2) ⊎ (7 ≤ status)

-- the status and the line of a run without an outcome, and of one whose text wasn't written whole
pub data OwnLine : ℕ → List ℕ → Type 0 where
  usage : OwnLine 2 usage_line
  too_long : OwnLine 7 length_line
  read_fault : OwnLine 8 read_line
  write_fault : OwnLine 9 write_line
  no_memory : OwnLine 10 memory_line

-- all of the input was read, and it is no longer than may be read
pub record IsReadWhole (source source' : Device) (input : List ℕ) : Type 0 where
  pub read : Consumes source.bytes source'.bytes input
  pub whole : IsAtEnd source'.bytes
  pub short : length input ≤ MAX_INPUT_BYTES

-- what an order reads: a task the whole input, `sample` nothing
abbrev pub ReadsFor : Order → Device → Device → List ℕ → Type 0
ReadsFor (Run task k budgets) source source' input = IsReadWhole source source' input
ReadsFor (Sample n) source source' input = IsUntouched source source'

-- a run with an outcome: what its order reads was read, and the text was written, or the outcome's status given
-- with its line
pub record Answered (words : List (List ℕ)) (source source' out out' : Device) (status : ℕ) (line : List ℕ) : Type 0 where
  pub order : Order
  pub input : List ℕ
  pub outcome : ℕ
  pub text : List ℕ
  pub means : Means words order
  pub reads : ReadsFor order source source' input
  pub comes : Outcome order input outcome text
  pub refused : outcome ≢ 0 → (status ≡ outcome) × (line ≡ text)
  pub follows : outcome ≡ 0 → (status ≡ 0) ⊎ (status ≡ 9)
  pub done : status ≡ 0 → Appends out.bytes out'.bytes text
  pub cut : status ≡ 9 → Rose out.faults out'.faults × AppendsFront out.bytes out'.bytes text

-- what a run takes from its source
pub record Reads (source source' : Device) (status : ℕ) : Type 0 where
  -- nothing where the words mean nothing
  pub unread : status ≡ 2 → IsUntouched source source'
  -- 8 where the source's count rose, and only where it tells a fault
  pub fault : source.faults < source'.faults → status ≡ 8
  pub cause : status ≡ 8 → Rose source.faults source'.faults
  -- 7 where one byte more was taken than may be read; see `short` for the other direction
  pub too_long : status ≡ 7 → TakesExactly source.bytes source'.bytes (MAX_INPUT_BYTES + 1)
  -- no run takes more than that byte, unless a read failed
  pub at_most : status ≢ 8 → TakesAtMost source.bytes source'.bytes (MAX_INPUT_BYTES + 1)

-- what `sample` takes from its source: nothing, so that no fault of the source comes of it
pub record ReadsNothing (source source' : Device) (status : ℕ) : Type 0 where
  pub untouched : IsUntouched source source'
  pub no_read_fault : status ≢ 8
  pub not_too_long : status ≢ 7

-- what a run does to `out`
pub record Writes (out out' : Device) (status : ℕ) : Type 0 where
  -- 9 where the count of `out` rose
  pub fault : out.faults < out'.faults → status ≡ 9
  -- on every other status but 0 nothing happened to it
  pub kept : status ≢ 0 → status ≢ 9 → IsUntouched out out'

-- a run, apart from what it does to the sink for faults, to which the line goes
pub record Ran (words : List (List ℕ)) (source source' out out' : Device) (status : ℕ) (line : List ℕ) : Type 0 where
  -- 2 exactly where the words mean nothing
  pub meant : status ≢ 2 → (order : Order) × Means words order
  pub usage : status ≡ 2 → (order : Order) → Means words order → ⊥
  pub reads : Reads source source' status
  pub sample : (n : ℕ) → Means words (Sample n) → ReadsNothing source source' status
  -- the outcome, on every status but 2, 7, 8 and 10
  pub answered : IsAnswered status → Answered words source source' out out' status line
  pub writes : Writes out out' status
  -- the line where there is no outcome that gives one
  pub own : HasOwnLine status → OwnLine status line

-- what the user is told: nothing on 0, else the line
pub record Tells (err err' : Device) (status : ℕ) (line : List ℕ) : Type 0 where
  pub silent : status ≡ 0 → IsUntouched err err'
  pub told : status ≢ 0 → Says err err' line

-- a run
pub record HasRun (words : List (List ℕ)) (source source' out out' err err' : Device) (status : ℕ) : Type 0 where
  pub line : List ℕ
  pub ran : Ran words source source' out out' status line
  pub tells : Tells err err' status line
