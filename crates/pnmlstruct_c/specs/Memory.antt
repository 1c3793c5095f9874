-- A run over words, an input and two buffers that a caller has in memory.
use Rattle.std.specs.Prelude.{◌≡◌, ℕ, ◌==◌, ◌<◌, ◌≤◌, List, [], length, Some}
use Rattle.std.specs.Str.{IsUtf8}
use Rattle.std.specs.List.{slice_split}
use Rattle.struct_core.specs.Run.{device, HasRun}

-- the words of a text: what occurs before its first space, between each two and after the last
abbrev pub words_of : List ℕ → List (List ℕ)
words_of text = slice_split (λ byte. byte == 32) text

-- the words that bytes spell: none where the bytes aren't UTF-8
pub record Spells (bytes : List ℕ) (words : List (List ℕ)) : Type 0 where
  pub text : IsUtf8 bytes → words ≡ words_of bytes
  pub none : (IsUtf8 bytes → ⊥) → words ≡ []

-- a sink that holds at most so many bytes
pub record Bounded : Type 0 where
  pub held : List ℕ
  pub room : ℕ
  pub faults : ℕ

-- the sink holds these bytes, and where it failed they fill its room
pub record IsHeld (sink : Bounded) (bytes : List ℕ) (room : ℕ) : Type 0 where
  pub held : bytes ≡ sink.held
  pub fits : length bytes ≤ room
  pub full : 0 < sink.faults → length bytes ≡ room

-- a run from a source that gives the input without a fault, to two sinks that held nothing and fail only where they
-- are full: what they hold after it, and its status
pub record HasRunInMemory (words : List (List ℕ)) (input text : List ℕ) (text_room : ℕ) (line : List ℕ) (line_room status : ℕ) : Type 0 where
  pub left : List ℕ
  pub text_faults : ℕ
  pub line_faults : ℕ
  pub run : HasRun words (device (Some input) 0) (device (Some left) 0)
      (device (Some []) 0) (device (Some text) text_faults) (device (Some []) 0) (device (Some line) line_faults) status
  pub text_full : 0 < text_faults → length text ≡ text_room
  pub line_full : 0 < line_faults → length line ≡ line_room

-- a call from C: the run of the words that the bytes spell, or memory was refused and nothing was written
pub data Answers (bytes input text : List ℕ) (text_room : ℕ) (line : List ℕ) (line_room status : ℕ) : Type 0 where
  ran : (words : List (List ℕ)) → Spells bytes words → HasRunInMemory words input text text_room line line_room status → Answers bytes input text text_room line line_room status
  no_memory : status ≡ 10 → text ≡ [] → line ≡ [] → Answers bytes input text text_room line line_room status
