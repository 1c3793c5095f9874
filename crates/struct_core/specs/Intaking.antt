-- What was taken of the input of a task, piece by piece. Only proofs rest on these words.
use Rattle.std.specs.Prelude.{◌≡◌, ℕ, ◌<◌, List, length}
use Rattle.pnml_decode.specs.Feeding.{StandsFor}
use Rattle.struct_core.specs.declared.intake.Intake.{Intake}
use Rattle.struct_core.specs.declared.intake.Part.{Part}
use Rattle.struct_core.specs.declared.intake.Part.TheVariants as parts
use Rattle.struct_core.specs.declared.order.Task.{Task}
use Rattle.struct_core.specs.declared.order.Task.TheVariants as tasks
use Rattle.struct_core.specs.Inputs.{line_length, front_of, rest_of}

-- where the document is the first line: the byte after these belongs to it where they have no line feed
abbrev pub IsNextByLine : Part → List ℕ → Type 0
IsNextByLine parts.Document bytes = ⊥
IsNextByLine parts.FirstLine bytes = line_length bytes ≡ length bytes
IsNextByLine parts.Rest bytes = line_length bytes < length bytes

-- the byte after these belongs to this part
abbrev pub IsNext : Task → Part → List ℕ → Type 0
IsNext tasks.Verify part bytes = IsNextByLine part bytes
IsNext tasks.Resume part bytes = IsNextByLine part bytes
IsNext tasks.Replay part bytes = IsNextByLine part bytes
IsNext _ part bytes = part ≡ parts.Document

-- these bytes were taken: the document's were fed to the decoder, and those after them kept
pub record HasTaken (task : Task) (intake : Intake) (bytes : List ℕ) : Type 0 where
  pub stands : StandsFor intake.decoder (front_of task bytes)
  pub kept : intake.rest.items ≡ rest_of task bytes
  pub next : IsNext task intake.part bytes
