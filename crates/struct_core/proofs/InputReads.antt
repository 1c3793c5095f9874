-- An input is read piece by piece: what was read of it is one list, which was taken, and the last read tells how it ends.
use Rattle.std.proofs.Common.{IfOk, IfErr, Result, Ok, Err, ◌≡◌, ◌∙◌, ℕ, ◌+◌, ◌-◌, ◌≤◌, ◌<◌, List, [], ◌++◌, length, take, refl, subst, ap, arith, length-append}
use Rattle.std.proofs.lemmas.List.{append-nil}
use Rattle.std.proofs.KnownBytes.{Consumes-nil, Consumes-trans}
use Rattle.std.specs.Io.KnownBytes.{Consumes, IsAtEnd}
use Rattle.net_values.specs.declared.limits.TheConstants.{MAX_INPUT_BYTES}
use Rattle.pnml_source.specs.Causes.{Rose}
use Rattle.pnml_source.specs.Streams.{TakesExactly}
use Rattle.pnml_source.specs.declared.reading.ReadPieceFault.{ReadPieceFault}
use Rattle.pnml_source.specs.declared.reading.ReadPieceFault.TheVariants as readings
use Rattle.pnml_source.proofs.Chained.{exactly_follows}
use Rattle.struct_core.specs.declared.intake.Intake.{Intake}
use Rattle.struct_core.specs.declared.order.Budgets.{Budgets}
use Rattle.struct_core.specs.declared.order.Order.TheVariants.{Run}
use Rattle.struct_core.specs.declared.order.Task.{Task}
use Rattle.report.specs.declared.refusal.Refusal.{Refusal}
use Rattle.report.specs.declared.refusal.Refusal.TheVariants.{NoMemory}
use Rattle.report.specs.Refusals.{reading_refusal}
use Rattle.struct_core.specs.Answers.{FailsWith}
use Rattle.struct_core.specs.Outcome.{Outcome}
use Rattle.struct_core.specs.Intaking.{HasTaken}
use Rattle.struct_core.specs.Obtaining.{HasRead, HasText, HasTakenAll, EndsBy}
use Rattle.struct_core.specs.Run.{Device}
use Rattle.struct_core.proofs.Exits.{read_failed, input_too_long, no_room, text_there, no_text}

-- so many bytes were read without a fault, and this was taken of them; the buffer has room
pub record HasReadOn (task : Task) (source source' : Device) (intake : Intake) (count size : ℕ) : Type 0 where
  pub input : List ℕ
  pub read : Consumes source.bytes source'.bytes input
  pub kept : source'.faults ≡ source.faults
  pub count_is : count ≡ length input
  pub within : count ≤ MAX_INPUT_BYTES
  pub taken : HasTaken task intake input
  pub room : 0 < size

-- ---- reads

-- before the first
pub nothing_read : (task : Task) (source : Device) (intake : Intake) (size : ℕ) → HasTaken task intake [] → 0 < size → HasReadOn task source source intake 0 size
nothing_read task source intake size has room = record {
  input = [];
  read = Consumes-nil source.bytes;
  kept = refl;
  count_is = refl;
  within = omega arith;
  taken = has;
  room = room;
}

-- one more piece
pub piece_read : (task : Task) (source middle source' : Device) (old new : Intake) (count n size size' : ℕ) (piece : List ℕ) → HasReadOn task source middle old count size
    → Consumes middle.bytes source'.bytes piece → source'.faults ≡ middle.faults → n ≡ length piece → count + n ≤ MAX_INPUT_BYTES
    → ((bytes : List ℕ) → HasTaken task old bytes → HasTaken task new (bytes ++ piece)) → 0 < size'
    → HasReadOn task source source' new (count + n) size'
piece_read task source middle source' old new count n size size' piece so taken kept count_is within takes room = record {
  input = so.input ++ piece;
  read = Consumes-trans source.bytes middle.bytes source'.bytes so.input piece so.read taken;
  kept = kept ∙ so.kept;
  count_is = omega (arith, so.count_is, count_is, length-append so.input piece);
  within = within;
  taken = takes so.input so.taken;
  room = room;
}

-- ---- the last read

-- it was at the end
pub all_read : (task : Task) (source middle source' : Device) (intake : Intake) (count n size : ℕ) (buffer : List ℕ) → HasReadOn task source middle intake count size
    → Consumes middle.bytes source'.bytes (take n buffer) → n ≡ 0 → IsAtEnd source'.bytes → source'.faults ≡ middle.faults → HasTakenAll task source source' intake
all_read task source middle source' intake count n size buffer so taken none ended kept =
    let all = ap (λ (m : ℕ). so.input ++ take m buffer) none ∙ append-nil so.input in
    record {
      input = so.input;
      read = record {
        read = subst (Consumes source.bytes source'.bytes) all (Consumes-trans source.bytes middle.bytes source'.bytes so.input (take n buffer) so.read taken);
        whole = ended;
        short = omega (arith, so.within, so.count_is);
      };
      kept = kept ∙ so.kept;
      taken = so.taken;
    }

-- it failed, or gave one byte too many
pub read_stops : (task : Task) (k : ℕ) (budgets : Budgets) (source middle source' : Device) (intake : Intake) (count size : ℕ) (fault : ReadPieceFault)
    → HasReadOn task source middle intake count size → (fault ≡ readings.ReadFault → Rose middle.faults source'.faults)
    → (fault ≡ readings.TooLong → TakesExactly middle.bytes source'.bytes (MAX_INPUT_BYTES + 1 - count)) → (fault ≡ readings.TooLong → source'.faults ≡ middle.faults)
    → EndsBy (Run task k budgets) source source' (reading_refusal fault)
read_stops task k budgets source middle source' intake count size readings.ReadFault so rose long kept = λ words out means.
    read_failed words task k budgets source source' out means (subst (λ (faults : ℕ). Rose faults source'.faults) so.kept (rose refl))
read_stops task k budgets source middle source' intake count size readings.TooLong so rose long kept = λ words out means.
    input_too_long words task k budgets source source' out means (kept refl ∙ so.kept)
    (exactly_follows source.bytes middle.bytes source'.bytes so.input count MAX_INPUT_BYTES so.count_is so.within so.read (long refl))

-- ---- out of memory

-- before the first read
pub no_room_to_read : (task : Task) (k : ℕ) (budgets : Budgets) (source : Device) → EndsBy (Run task k budgets) source source NoMemory
no_room_to_read task k budgets source = no_room task k budgets source source refl ([], Consumes-nil source.bytes, omega arith)

-- for what was read
pub no_room_for_piece : (task : Task) (k : ℕ) (budgets : Budgets) (source middle source' : Device) (intake : Intake) (count n size : ℕ) (piece : List ℕ)
    → HasReadOn task source middle intake count size → Consumes middle.bytes source'.bytes piece → source'.faults ≡ middle.faults → n ≡ length piece
    → count + n ≤ MAX_INPUT_BYTES → EndsBy (Run task k budgets) source source' NoMemory
no_room_for_piece task k budgets source middle source' intake count n size piece so taken kept count_is within =
    no_room task k budgets source source' (kept ∙ so.kept)
    (so.input ++ piece, Consumes-trans source.bytes middle.bytes source'.bytes so.input piece so.read taken, omega (arith, so.count_is, count_is, within, length-append so.input piece))

-- ---- what comes of what was taken

-- the answer for what was taken is that for the input
module _ (task : Task) (k : ℕ) (budgets : Budgets) (source source' : Device) (intake : Intake) (all : HasTakenAll task source source' intake) where
  read_whole : HasRead (Run task k budgets) source source' all.input
  read_whole = record { reads = all.read; taken = (all.input, all.read.read, all.read.short); kept = all.kept }

  pub taken_gives_text : (result : Result (List ℕ) Refusal)
      → IfOk result (λ text. (bytes : List ℕ) → HasTaken task intake bytes → Outcome (Run task k budgets) bytes 0 text)
      → IfOk result (HasText (Run task k budgets) source source')
  taken_gives_text (Ok text) is = text_there (Run task k budgets) source source' all.input (Ok text) read_whole (is all.input all.taken)
  taken_gives_text (Err refusal) is = tt

  pub taken_gives_refusal : (result : Result (List ℕ) Refusal)
      → IfErr result (λ refusal. (bytes : List ℕ) → HasTaken task intake bytes → FailsWith (Outcome (Run task k budgets) bytes) refusal)
      → IfErr result (EndsBy (Run task k budgets) source source')
  taken_gives_refusal (Ok text) is = tt
  taken_gives_refusal (Err refusal) is = no_text (Run task k budgets) source source' all.input (Err refusal) read_whole (is all.input all.taken)
