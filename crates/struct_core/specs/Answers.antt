-- Why there is no text: out of memory, or by an outcome that the refusal tells; and how a run ends by that.
use Rattle.std.specs.Prelude.{◌≡◌, ◌≢◌, ◌⊎◌, ℕ, suc, ◌≤◌, List, [], Result, Ok, Err}
use Rattle.net_values.specs.declared.document.Document.{Document}
use Rattle.page_flatten.specs.declared.fault.FlatFault.{FlatFault}
use Rattle.page_flatten.specs.Rules.{IsAnswered}
use Rattle.report.specs.declared.refusal.Refusal.{Refusal}
use Rattle.report.specs.declared.refusal.Refusal.TheVariants.{Rule}
use Rattle.report.specs.FaultLines.{memory_line}
use Rattle.report.specs.Refusals.{status_of, line_of}

-- out of memory
pub record IsMemory (refusal : Refusal) : Type 0 where
  pub status : status_of refusal ≡ 10
  pub line : line_of refusal ≡ memory_line

-- an outcome with a status from 1 to 6 but not that of bad words, and with the line of the refusal
pub record IsTold (Tells : ℕ → List ℕ → Type 0) (refusal : Refusal) : Type 0 where
  pub low : 1 ≤ status_of refusal
  pub not_usage : status_of refusal ≢ 2
  pub high : status_of refusal ≤ 6
  pub outcome : Tells (status_of refusal) (line_of refusal)

abbrev pub FailsWith : (ℕ → List ℕ → Type 0) → Refusal → Type 0
FailsWith Tells refusal = IsMemory refusal ⊎ IsTold Tells refusal

-- the fault of a document whose net k is asked for: out of memory, its first broken rule, or that it has no such net
abbrev pub IsRefusedNet : Document → ℕ → Refusal → Type 0
IsRefusedNet document k refusal = (fault : FlatFault) × (refusal ≡ Rule k fault) × (n : ℕ) × (k ≡ suc n) × IsAnswered document n fault

-- the status after a run whose text was written, or not, and the line that tells it
abbrev pub status_after : {T : Type 0} → Result T Refusal → ℕ
status_after (Ok done) = 0
status_after (Err refusal) = status_of refusal

abbrev pub line_after : {T : Type 0} → Result T Refusal → List ℕ
line_after (Ok done) = []
line_after (Err refusal) = line_of refusal
