-- What a call that writes bytes to a sink does to it.
use Rattle.std.specs.Prelude.{ℕ, List, Option, Result, OnOk, OnErr}
use Rattle.std.specs.Io.KnownBytes.{Appends}
use Rattle.pnml_source.specs.Causes.{HasCause}
use Rattle.pnml_source.specs.Streams.{AppendsFront}

-- the bytes that the sink holds, and its count of faults, before the call and after it
pub record IsWritten {T E : Type 0} (old new : Option (List ℕ)) (before now : ℕ) (bytes : List ℕ) (result : Result T E) : Type 0 where
  -- a success appended these bytes
  pub whole : OnOk result (Appends old new bytes)
  -- a failure appended a prefix of them
  pub cut : OnErr result (AppendsFront old new bytes)
  -- and the count tells which it was
  pub cause : HasCause before now result
