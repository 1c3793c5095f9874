-- What calls do to the bytes that a source has left and to those that a sink holds, where they are known.
use Rattle.std.specs.Prelude.{◌≡◌, ℕ, ◌≤◌, ◌<◌, List, ◌++◌, length, take, Option, Result, IfOk}
use Rattle.std.specs.Io.KnownBytes.{Consumes, Appends, IsAtEnd}

-- a read puts the next bytes left into the front of the buffer; none in a buffer with room is the end of input
abbrev pub GivesNext : {E : Type 0} → Option (List ℕ) → Option (List ℕ) → Result ℕ E → List ℕ → Type 0
GivesNext old new result buf =
    IfOk result (λ n. Consumes old new (take n buf) × (n ≡ 0 → 0 < length buf → IsAtEnd new))

-- a write takes at most the whole piece, and at least one byte where there is one
abbrev pub TakesSome : {E : Type 0} → Result ℕ E → List ℕ → Type 0
TakesSome result piece = IfOk result (λ n. (n ≤ length piece) × (0 < length piece → 0 < n))

-- the bytes left lose n bytes at their front
abbrev pub TakesExactly : Option (List ℕ) → Option (List ℕ) → ℕ → Type 0
TakesExactly old new n = (bytes : List ℕ) × Consumes old new bytes × (length bytes ≡ n)

-- the bytes left lose at most n bytes at their front
abbrev pub TakesAtMost : Option (List ℕ) → Option (List ℕ) → ℕ → Type 0
TakesAtMost old new n = (bytes : List ℕ) × Consumes old new bytes × (length bytes ≤ n)

-- the bytes are all that was left
pub record IsWholeInput (old new : Option (List ℕ)) (bytes : List ℕ) : Type 0 where
  pub taken : Consumes old new bytes
  pub ended : IsAtEnd new

-- the bytes held grow by a prefix of these bytes
abbrev pub AppendsFront : Option (List ℕ) → Option (List ℕ) → List ℕ → Type 0
AppendsFront old new bytes = (n : ℕ) × Appends old new (take n bytes)

-- a list grew by bytes that the bytes left lost at their front
abbrev pub MovesBytes : Option (List ℕ) → Option (List ℕ) → List ℕ → List ℕ → Type 0
MovesBytes old new before after = (bytes : List ℕ) × Consumes old new bytes × (after ≡ before ++ bytes)
