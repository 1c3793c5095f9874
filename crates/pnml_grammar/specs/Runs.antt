-- Reading a list of bytes from its front. A reading gives what it found and the bytes after it, or nothing.
use Rattle.std.specs.Prelude.{ℕ, Bool, nat_eq, ◌==◌, if◌then◌else◌, List, [], ◌∷◌, Option, Some, None, length, drop}
use Rattle.std.specs.List.{starts_with}

infixl 10 ◌>>=◌
abbrev pub ◌>>=◌ : {A B : Type 0} → Option A → (A → Option B) → Option B
None >>= f = None
(Some x) >>= f = f x

-- the first bytes that pass the test, and the bytes after them
abbrev pub passed : (ℕ → Bool) → List ℕ → List ℕ
passed test [] = []
passed test (byte ∷ bytes) = if test byte then byte ∷ passed test bytes else []

abbrev pub beyond : (ℕ → Bool) → List ℕ → List ℕ
beyond test [] = []
beyond test (byte ∷ bytes) = if test byte then beyond test bytes else byte ∷ bytes

-- what follows one byte, and after a text
abbrev pub past : ℕ → List ℕ → Option (List ℕ)
past wanted [] = None
past wanted (byte ∷ bytes) = if byte == wanted then Some bytes else None

abbrev pub past_text : List ℕ → List ℕ → Option (List ℕ)
past_text text bytes = if starts_with nat_eq bytes text then Some (drop (length text) bytes) else None

-- what comes before and after the first occurrence of a part
abbrev pub with_byte : ℕ → Option (List ℕ × List ℕ) → Option (List ℕ × List ℕ)
with_byte byte found = found >>= λ x. Some (byte ∷ x.0, x.1)

abbrev pub until : List ℕ → List ℕ → Option (List ℕ × List ℕ)
until part [] = if starts_with nat_eq [] part then Some ([], drop (length part) []) else None
until part (byte ∷ bytes) =
    if starts_with nat_eq (byte ∷ bytes) part then Some ([], drop (length part) (byte ∷ bytes)) else with_byte byte (until part bytes)
